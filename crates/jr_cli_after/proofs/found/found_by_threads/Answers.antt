use Rattle.std.proofs.Common.{◌≡◌, ap, ◌∙◌, flat_map, map, max, List, arith}
use Rattle.std.specs.Borrow.{Bor}
use Rattle.rayon.specs.Lists.{chunks_of, chunks_size, chunks_slice, min_len_base}
use Rattle.rayon.specs.declared.slice.Chunks.{Chunks}
use Rattle.rayon.proofs.ToStd.{chunks_of-concat}
use Rattle.jr_cli_after.specs.declared.part.Part.{Part}
use Rattle.jr_cli_after.specs.Sharing.{found_of}
use Rattle.jr_cli_after.proofs.Shares.{all_found}
use Rattle.jr_cli_after.proofs.found.found_by_threads.Goals as goal

pub returns : goal.returns
returns g c =
    let made = c.in_ok-found.ensures in
    let share = c.args.share in
    let parts = c.args.parts.now in
    let shares = made.1.0 in
    let cut : map (λ (x : Bor (List Part)). x.now) shares ≡ chunks_of (max share 1) parts =
    made.1.1
    ∙ ap (λ (it : Chunks Part). chunks_of (max (chunks_size it) 1) (chunks_slice it))
    (ap min_len_base c.map.ensures.base ∙ c.with_min_len.ensures.base)
    ∙ ap (λ n. chunks_of (max n 1) (chunks_slice c.par_chunks.result)) c.par_chunks.ensures.size
    ∙ ap (chunks_of (max share 1)) c.par_chunks.ensures.slice in
    all_found found_of _ (λ x r says. says) shares made.0 parts c.in_ok-found.found made.1.2
    (ap (flat_map (λ (l : List Part). l)) cut ∙ chunks_of-concat (max share 1) parts (omega (arith, c.requires)))
    made.2
