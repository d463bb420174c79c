-- A work buffer whose numbers are 0. Stands on the table's layout.
use Rattle.std.specs.Prelude.{List, ℕ, ◌++◌, drop, replicate}
use Rattle.table.specs.Layout.{work_size}

-- its numbers are 0, and those after it as they were
unfoldable pub cleared : List ℕ → List ℕ
cleared w = replicate work_size 0 ++ drop work_size w
