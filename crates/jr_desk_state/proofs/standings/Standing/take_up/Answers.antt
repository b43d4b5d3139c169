use Rattle.std.proofs.Common.{refl, length, ap}
use Rattle.std.specs.Option.{option_map}
use Rattle.jr_desk_state.specs.declared.standings.Issued.{Issued}
use Rattle.std.proofs.lemmas.Option.{slice_get_read}
use Rattle.jr_desk_state.proofs.StandingMoves.{probe_moves}
use Rattle.jr_desk_state.proofs.standings.Standing.take_up.Goals as goal

-- src/standings.rt:124:5
pub returns-clause-kept : goal.returns-clause-kept
returns-clause-kept c plan history job worker write piece next at number now =
    let s = c.args.self.now in
    probe_moves plan history job s now worker c.args.number write piece c.index_mut-issued.result.now next at number
    (slice_get_read s.issued.items (length s.issued.items) c.args.number c.index_mut-issued.result.now refl c.requires c.index_mut-issued.ensures.value)

pub returns-clause-id : goal.returns-clause-id
returns-clause-id c =
    let items = c.args.self.now.issued.items in
    ap (option_map (λ (issued : Issued). issued.id))
    (slice_get_read items (length items) c.args.number c.index_mut-issued.result.now refl c.requires c.index_mut-issued.ensures.value)
