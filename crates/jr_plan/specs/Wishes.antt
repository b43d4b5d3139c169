-- Believed: which files of a plan its jobs want past the system's cache (fio's manual, "direct").
use Rattle.std.specs.Prelude.{ℕ, ◌==◌, Bool, true, false, not, ◌&&◌, List}
use Rattle.std.specs.List.{list_any}
use Rattle.jr_model.specs.Plan.{SubJob}
use Rattle.jr_plan.specs.declared.wishes.Wish.{Wish}
use Rattle.jr_plan.specs.declared.wishes.Wish.TheVariants as wish

-- two flags are one
abbrev pub is_same : Bool → Bool → Bool
is_same true b = b
is_same false b = not b

-- the clone works on this file, and its job says so
abbrev pub says : Bool → ℕ → SubJob → Bool
says wanted file job = (job.file == file) && is_same job.direct wanted

-- a file goes past the cache where some of its jobs say direct=1 and no other doesn't
abbrev pub wish_by : Bool → Bool → Wish
wish_by true true = wish.Mixed
wish_by true false = wish.Direct
wish_by false _ = wish.Cached

abbrev pub wish_of : List SubJob → ℕ → Wish
wish_of clones file = wish_by (list_any (says true file) clones) (list_any (says false file) clones)
