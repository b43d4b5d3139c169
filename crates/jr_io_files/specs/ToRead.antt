-- Believed: by which names a plan's files are opened to be judged (of this project).
use Rattle.std.specs.Prelude.{ℕ, suc, List, [], ◌∷◌, codes, if◌then◌else◌}
use Rattle.std.specs.List.{list_any}
use Rattle.jr_model.specs.Plan.{FileSpec, SubJob}
use Rattle.jr_io_blocks.specs.Parts.{FileView, named_view}
use Rattle.jr_io_files.specs.Uses.{writes_file}

-- a file that a clone writes by its own name; in place of any other the root folder, of which nothing can be read
abbrev pub name_to_read : List SubJob → ℕ → FileSpec → List ℕ
name_to_read clones index spec = if list_any (writes_file index) clones then spec.name else codes "/"

abbrev pub view_to_read : List SubJob → ℕ → FileSpec → FileView
view_to_read clones index spec = named_view (name_to_read clones index spec)

-- what is known of these files once they are open, which are numbered from this one on
abbrev pub views_to_read : List SubJob → ℕ → List FileSpec → List FileView
views_to_read clones index [] = []
views_to_read clones index (spec ∷ specs) = view_to_read clones index spec ∷ views_to_read clones (suc index) specs
