-- Believed: what a run wants of the I/O to each file of its plan: what the jobs say (fio's manual, "direct"), and nothing if its words say
-- that all I/O goes through the system's cache (of this project).
use Rattle.std.specs.Prelude.{Bool, true, false, List, [], length, map, if◌then◌else◌}
use Rattle.std.specs.List.{range_with_len}
use Rattle.jr_model.specs.Plan.{Plan}
use Rattle.jr_plan.specs.declared.wishes.Wish.{Wish}
use Rattle.jr_plan.specs.declared.wishes.Wish.TheVariants as wish
use Rattle.jr_plan.specs.Wishes.{wish_of}

-- what a run wants of each file, where its words may say that all goes through the cache
abbrev pub wishes_of : Bool → Plan → List Wish
wishes_of cached plan = if cached then [] else map (wish_of plan.clones) (range_with_len 0 (length plan.files))

-- some job wants the I/O of the file past the cache
abbrev pub is_wanted : Wish → Bool
is_wanted wish.Cached = false
is_wanted wish.Direct = true
is_wanted wish.Mixed = true
