use Rattle.std.proofs.Common.{[], sym, subst}
use Rattle.std.specs.Prelude.{Contains}
use Rattle.std.proofs.lemmas.List.Elements.{All-nil, All-same}
use Rattle.jr_crew_channel.specs.declared.parcel.Parcel.TheVariants.{Check}
use Rattle.jr_crew_channel.specs.declared.parcel.PassState.{PassState}
use Rattle.jr_crew_channel.specs.Passes.{pass_state}
use Rattle.jr_crew_threads.specs.Judging.{AreChecksOf}
use Rattle.jr_crew_threads.proofs.PartLemmas.{checks_on, just_taken, on_ok, taken_first, taken_on}
use Rattle.jr_crew.proofs.verifier.gather.Goals as goal

pub loop-init : goal.loop-init
loop-init g c = (
  taken_first _ _ c.take-next.result c.take-next.ensures,
  All-same (λ answer. Contains (pass_state c.take-next.new.self.pass).taken (Check answer)) c.args.served.now.items [] c.requires
      (All-nil (λ answer. Contains (pass_state c.take-next.new.self.pass).taken (Check answer))),
  just_taken _ _ c.take-next.result c.take-next.ensures,
)

pub returns-in_default-clause-checks : goal.returns-in_default-clause-checks
returns-in_default-clause-checks g c =
    subst (λ (v : PassState). AreChecksOf v.taken c.keep.new.served.items) (sym c.in_default.ensures.none)
    (c.in_ok-keep.ensures (pass_state c.loop.channel.pass).taken c.loop.invariant.2 c.loop.invariant.1)

pub loop-preserved : goal.loop-preserved
loop-preserved g c = (
  taken_on _ _ _ c.in-Some.parcel c.loop.invariant.0 c.in-Some.ensures.taken,
  checks_on c.keep.new.served.items _ _ c.in-Some.parcel
      (c.in_ok-keep.ensures (pass_state c.loop.channel.pass).taken c.loop.invariant.2 c.loop.invariant.1)
      c.in-Some.ensures.taken,
  just_taken _ _ c.in-Some.parcel c.in-Some.ensures.taken,
)

pub returns-clause-checks : goal.returns-clause-checks
returns-clause-checks g c =
    on_ok c.keep-2.result _ _ (λ kept. kept (pass_state c.loop.channel.pass).taken c.loop.invariant.2 c.loop.invariant.1) c.keep-2.ensures
