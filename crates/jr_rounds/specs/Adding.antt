-- Internal: one more round is added to sums.
use Rattle.std.specs.Prelude.{◌+◌, List, [], ◌∷◌}
use Rattle.jr_model.specs.declared.totals.Totals.{Totals}
use Rattle.jr_rounds.specs.Sums.{capped}

abbrev pub added : Totals → Totals → Totals
added sum more = record {
  reads = capped (sum.reads + more.reads);
  rbytes = capped (sum.rbytes + more.rbytes);
  writes = capped (sum.writes + more.writes);
  wbytes = capped (sum.wbytes + more.wbytes);
  checks = capped (sum.checks + more.checks);
  good = capped (sum.good + more.good);
  bad = capped (sum.bad + more.bad);
  skipped = capped (sum.skipped + more.skipped);
  void = capped (sum.void + more.void);
  faults = capped (sum.faults + more.faults);
}

-- to each sum what its clone did more; there may be more sums
abbrev pub all_added : List Totals → List Totals → List Totals
all_added [] totals = []
all_added (sum ∷ sums) [] = sum ∷ sums
all_added (sum ∷ sums) (t ∷ totals) = added sum t ∷ all_added sums totals

-- what a clone did that did nothing
abbrev pub nothing_done : Totals
nothing_done = record {
  reads = 0;
  rbytes = 0;
  writes = 0;
  wbytes = 0;
  checks = 0;
  good = 0;
  bad = 0;
  skipped = 0;
  void = 0;
  faults = 0;
}
