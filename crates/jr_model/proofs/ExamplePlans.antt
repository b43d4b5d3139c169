-- The plans of worked job files.
use Rattle.std.specs.Prelude.{ℕ, List, [], ◌∷◌, true, false, codes, Some, None}
use Rattle.jr_model.specs.declared.contents.Method.{Method}
use Rattle.jr_model.specs.declared.contents.VerifyKind.TheVariants as verify
use Rattle.jr_model.specs.declared.workloads.EngineKind.TheVariants as engine
use Rattle.jr_model.specs.declared.workloads.IoType.TheVariants as io
use Rattle.jr_model.specs.Plan.{Plan, SubJob}

-- verify=pattern verify_pattern=1
abbrev pub ones : Method
ones = record { kind = verify.Pattern; pattern = Some (1 ∷ []); interval = 0 }

abbrev pub no_verify : Method
no_verify = record { kind = verify.Plain; pattern = None; interval = 0 }

abbrev pub by_md5 : Method
by_md5 = record { kind = verify.Md5; pattern = None; interval = 0 }

-- `[w] rw=write bs=4k`, with so many cells and this verify method
abbrev pub sequential_writes : ℕ → Method → SubJob
sequential_writes cells method = record {
  job = codes "w";
  clone = 0;
  phase = 0;
  file = 0;
  start = 0;
  cell = 4096;
  cells = cells;
  io_type = io.Write;
  read_percent = 50;
  read_split = (4096, 100) ∷ [];
  write_split = (4096, 100) ∷ [];
  has_map = true;
  seed = 1;
  depth = 1;
  passes = 1;
  method = method;
  checks_writes = true;
  backlog = 0;
  is_fatal = false;
  declines = false;
  direct = false;
}

abbrev pub in_memory : List SubJob → ℕ → Plan
in_memory jobs high = record {
  clones = jobs;
  files = record { name = codes "w.0.0"; low = 0; high = high } ∷ [];
  engine = engine.Memory;
  verifiers = 0;
}

-- `[w] ioengine=memory rw=write size=8k verify=pattern verify_pattern=1`
abbrev pub two_checked_writes : Plan
two_checked_writes = in_memory (sequential_writes 2 ones ∷ []) 8192

-- `[w] ioengine=memory rw=write size=28k verify_backlog=3 verify=md5`
abbrev pub seven_in_threes : Plan
seven_in_threes = in_memory (record (sequential_writes 7 by_md5) { backlog = 3 } ∷ []) 28672

-- `[w] ioengine=memory rw=write size=8k iodepth=2 verify=pattern verify_pattern=1`
abbrev pub two_at_depth_2 : Plan
two_at_depth_2 = in_memory (record (sequential_writes 2 ones) { depth = 2 } ∷ []) 8192

-- `[w] ioengine=memory rw=write size=8k numjobs=2 filename=f verify=pattern verify_pattern=1`
abbrev pub two_clones_one_file : Plan
two_clones_one_file = record {
  clones = sequential_writes 2 ones ∷ record (sequential_writes 2 ones) { clone = 1 } ∷ [];
  files = record { name = codes "f"; low = 0; high = 8192 } ∷ [];
  engine = engine.Memory;
  verifiers = 0;
}

-- the same with serialize_overlap=0
abbrev pub two_that_decline : Plan
two_that_decline = record two_clones_one_file {
  clones =
      record (sequential_writes 2 ones) { declines = true }
      ∷ record (sequential_writes 2 ones) { clone = 1; declines = true } ∷ [];
}

-- `[a] ioengine=memory rw=write size=4k`, `[b] ioengine=memory rw=write size=4k stonewall`
abbrev pub stonewalled : Plan
stonewalled = record {
  clones =
      record (sequential_writes 1 no_verify) { job = codes "a" }
      ∷ record (sequential_writes 1 no_verify) { job = codes "b"; clone = 1; phase = 1; file = 1 } ∷ [];
  files = record { name = codes "a.0.0"; low = 0; high = 4096 } ∷ record { name = codes "b.0.0"; low = 0; high = 4096 } ∷ [];
  engine = engine.Memory;
  verifiers = 0;
}
