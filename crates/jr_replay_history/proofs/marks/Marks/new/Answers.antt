use Rattle.std.proofs.Common.{ap}
use Rattle.std.specs.Prelude.{nat_eq, unwrap_or}
use Rattle.std.specs.List.{list_any}
use Rattle.std.specs.Map.{lookup}
use Rattle.jr_replay_history.specs.Marks.{same_name, same_pass}
use Rattle.jr_replay_history.proofs.marks.Marks.new.Goals as goal

pub returns : goal.returns
returns c = λ ios. record {
  outcomes = λ io. ap (λ entries. lookup (nat_eq io) entries) c.new.ensures.empty;
  judged = λ io. ap (λ keys. list_any (nat_eq io) keys) c.new-2.ensures.empty;
  issued = λ key. ap (λ entries. unwrap_or (lookup (same_pass key) entries) 0) c.new-3.ensures.empty;
  taken_up = λ write. ap (λ keys. list_any (same_name write) keys) c.new-4.ensures.empty;
  settled = λ write. ap (λ keys. list_any (same_name write) keys) c.new-5.ensures.empty;
  faulty = λ clone. ap (λ keys. list_any (nat_eq clone) keys) c.new-6.ensures.empty;
  condemned = λ clone. ap (λ keys. list_any (nat_eq clone) keys) c.new-7.ensures.empty;
  written = c.new-8.ensures.items;
  parts = λ file part. c.new-9.ensures (file, part);
}
