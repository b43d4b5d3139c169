-- What a pass begins with is as sound as its clone.
use Rattle.std.proofs.Common.{sym, ◌∙◌, ap, arith}
use Rattle.jr_laws_draws.proofs.PassLaws.{fresh-fit}
use Rattle.jr_draw.proofs.course.Course.new.Goals as goal

pub invariant_of-result : goal.invariant_of-result
invariant_of-result c =
    let facts = c.facts.ensures in
    record {
      drawable = record {
        cell_sectors = rw c.cell.ensures facts.cell_sectors;
        cell_least = omega (arith, c.cell.ensures, facts.cell_least);
        cells_least = rw c.cells-2.ensures facts.cells_least;
        cells_most = rw c.cells-2.ensures facts.cells_most;
        start_sectors = rw c.start.ensures facts.start_sectors;
        region = rw (c.start.ensures, c.cells-2.ensures, c.cell.ensures) facts.region;
        reads = rw (c.io_type-2.ensures, c.cell.ensures, c.read_split.ensures) facts.reads;
        writes = rw (c.io_type-2.ensures, c.cell.ensures, c.write_split.ensures) facts.writes;
      };
      places = rw (c.in_ok-places.ensures, c.cells-2.ensures, c.cells.ensures) (fresh-fit c.io_type.result c.has_map.result c.args.job.now.cells);
      number = omega arith;
    }
