-- Internal: what the entries of a book stand for (of this project).
use Rattle.std.specs.Prelude.{◌≡◌, ℕ, zero, suc, ◌≤◌, ◌++◌, List, map, length, slice_get, Option, None}
use Rattle.std.specs.Option.{IsSome, unwrap_or}
use Rattle.jr_model.specs.declared.blocks.Piece.{Piece}
use Rattle.jr_model.specs.declared.contents.Expected.{Expected}
use Rattle.jr_model.specs.declared.contents.Method.{Method}
use Rattle.jr_model.specs.declared.contents.VerifyKind.TheVariants.{Plain}
use Rattle.jr_model.specs.declared.events.Verdict.{Verdict}
use Rattle.jr_writes.specs.KeptEntries.{IsMore, IsPlaced, made_at}
use Rattle.jr_crew_books.specs.declared.books.Done.{Done}
use Rattle.jr_crew_books.specs.declared.entries.BookEntry.{BookEntry}
use Rattle.jr_crew_books.specs.declared.entries.BookValues.{BookValues}

-- the last of so many; nothing where there are none
abbrev pub last_of : {X : Type 0} → List X → ℕ → Option X
last_of known zero = None
last_of known (suc before) = slice_get known before

-- where what it is of read or wrote
abbrev pub entry_piece : BookEntry → Piece
entry_piece entry = record { file = entry.file; offset = entry.offset; len = entry.len }

-- what an entry stands for, with its method, what its check compares with and its verdict
abbrev pub done_with_last : BookEntry → Method → Expected → Option Verdict → Done
done_with_last entry method expected verdict = record {
  ticket = record {
    id = entry.id;
    worker = entry.worker;
    kind = entry.kind;
    write = entry.write;
    piece = entry_piece entry;
    seed = entry.seed;
    method = method;
    expected = expected;
  };
  outcome = entry.outcome;
  verdict = verdict;
}

-- a method that says nothing, for an entry that has none
abbrev pub no_method : Method
no_method = record { kind = Plain; pattern = None; interval = 0 }

-- what an entry stands for
abbrev pub done_as : BookValues → BookEntry → Done
done_as known entry =
    done_with_last entry (unwrap_or (last_of known.methods.items entry.method) no_method)
    (made_at known.expected entry.expected (entry_piece entry)) (last_of known.verdicts.items entry.verdict)

-- what the entries stand for, in their order
abbrev pub dones_as : BookValues → List BookEntry → List Done
dones_as known entries = map (done_as known) entries

-- what an entry speaks of is known
pub record IsKnown (known : BookValues) (entry : BookEntry) : Type 0 where
  pub method : IsSome (last_of known.methods.items entry.method)
  pub expected : IsPlaced known.expected entry.expected
  pub verdict : entry.verdict ≤ length known.verdicts.items

-- the entry stands for this
pub record IsEntryOf (known : BookValues) (done : Done) (entry : BookEntry) : Type 0 where
  pub speaks : IsKnown known entry
  pub same : done_as known entry ≡ done

-- there may be more behind
pub record IsLonger {X : Type 0} (old new : List X) : Type 0 where
  pub more : List X
  pub is : new ≡ old ++ more

-- more may be known, and all that was known still is
pub record IsGrown (old new : BookValues) : Type 0 where
  pub methods : IsLonger old.methods.items new.methods.items
  pub expected : IsMore old.expected new.expected
  pub verdicts : IsLonger old.verdicts.items new.verdicts.items
