use Rattle.std.proofs.Common.{◌≡◌, ◌++◌, take, flat_map, string_bytes}
use Rattle.jr_ledger.specs.Identity.{byte_text}
use Rattle.jr_ledger.proofs.identity.push_bytes.Given as goal

-- the bytes so far were added
abbrev pub invariant-loop-byte : goal.invariant-loop-byte
invariant-loop-byte l = string_bytes l.text ≡ string_bytes l.initial.text ++ flat_map byte_text (take l.byte-index l.bytes)
