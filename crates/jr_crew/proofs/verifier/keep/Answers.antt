use Rattle.std.proofs.Common.{subst}
use Rattle.std.specs.Prelude.{Contains}
use Rattle.std.proofs.lemmas.List.Elements.{All-push, All-same}
use Rattle.jr_crew_channel.specs.declared.parcel.Parcel.TheVariants.{Check}
use Rattle.jr_crew.proofs.verifier.keep.Goals as goal

pub returns-in_ok-push-in-Check : goal.returns-in_ok-push-in-Check
returns-in_ok-push-in-Check c parcels has are =
    All-same (λ answer. Contains parcels (Check answer)) _ _ c.in_ok-push-in-Check.ensures.ok
    (All-push (λ answer. Contains parcels (Check answer)) c.args.served.now.items c.in-Check.one are (subst (Contains parcels) c.in-Check.is has))
