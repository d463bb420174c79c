-- The lines of the devices (document 02, order 7). Stands on Limits, Keys, Lines and Reader.
use Rattle.std.specs.Prelude.{ℕ, Bool, false, cond, List, [], ◌∷◌}
use Rattle.sheet_rules.specs.declared.Place.{Place}
use Rattle.sheet_rules.specs.Limits.{device_limit}
use Rattle.sheet_rules.specs.Keys.{same_place}
use Rattle.sheet_rules.specs.Lines.{Line, line, torn}
use Rattle.sheet_rules.specs.Reader.{Reader, ◌>>=◌, give, one, many, count_line, existing_line}

-- the next line is one with a key of that place (order 7)
abbrev pub next_is : Place → List Line → Bool
next_is wanted [] = false
next_is wanted (torn ∷ ls) = false
next_is wanted (line k ns ∷ ls) = same_place k wanted

-- `devices=D` and D lines `device=F`, in a sheet of `forms` forms (order 7)
unfoldable pub read_device_lines : ℕ → Reader (List ℕ)
read_device_lines forms = do
  d ← one (count_line Place.Devices 1 device_limit)
  many d (λ before. one (existing_line Place.Device forms)) []

-- the devices, which stand after the forms: none, where the next line is not a `devices` line (order 7)
unfoldable pub read_devices : ℕ → Reader (List ℕ)
read_devices forms ls n = cond (next_is Place.Devices ls) (read_device_lines forms ls n) (give [] ls n)
