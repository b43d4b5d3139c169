-- A run whose report or trace is cut short isn't one that wanted an engine or a thread.
use Rattle.std.proofs.Common.{◌≡◌, sym, subst, inl, inr}
use Rattle.std.specs.Prelude.{Result, Ok, Err, IfErr, IsErrAnd}
use Rattle.jr_cli_words.specs.declared.faults.CliFault.{CliFault}
use Rattle.jr_cli_words.specs.declared.faults.CliFault.TheVariants as fault
use Rattle.jr_run_faults.specs.declared.runs.RunFault.TheVariants as run
use Rattle.jr_cli.specs.Executed.{IsCutShort, IsRunFault}

-- what holds of a fault holds of the one that is handed on
pub of_handed : {T : Type 0} (P : CliFault → Type 0) (r : Result T CliFault) (f : CliFault) → IsErrAnd r (λ e. e ≡ f) → P f → IfErr r P
of_handed P (Ok x) f is holds = absurd is
of_handed P (Err e) f is holds = subst P (sym is) holds

pub wants_no_engine : (f : CliFault) → IsCutShort f → f ≡ fault.Run run.NoEngine → ⊥
wants_no_engine f (inl memory) is = cc
wants_no_engine f (inr (inl memory)) is = cc
wants_no_engine f (inr (inr write)) is = cc

pub wants_no_thread : (f : CliFault) → IsCutShort f → f ≡ fault.Run run.Thread → ⊥
wants_no_thread f (inl memory) is = cc
wants_no_thread f (inr (inl memory)) is = cc
wants_no_thread f (inr (inr write)) is = cc

pub ends_a_run : (f : CliFault) → IsCutShort f → IsRunFault f
ends_a_run f (inl memory) = subst IsRunFault (sym memory) tt
ends_a_run f (inr (inl memory)) = subst IsRunFault (sym memory) tt
ends_a_run f (inr (inr write)) = subst IsRunFault (sym write) tt
