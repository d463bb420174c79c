-- Laws of the devices that reading gives: they are few, and their forms are there. Assumes nothing.
use Prim.Native.Nat.{ℕ, ◌≤◌, ◌<◌}
use native.Mathlib.Omega.{arith}
use mathlib.Core.Bool.{Bool, true, false, cond}
use mathlib.Core.List.{List, []}
use lib.ListN.{length}
use Rattle.lists.specs.In.{In}
use Rattle.lists.proofs.InLaws.{In-nil}
use Rattle.sheet_rules.specs.declared.Place.{Place}
use Rattle.sheet_rules.specs.Limits.{device_limit}
use Rattle.sheet_rules.specs.Lines.{Line}
use Rattle.sheet_rules.specs.Reader.{give, count_line}
use Rattle.sheet_rules.specs.DeviceLines.{next_is, read_device_lines, read_devices}
use Rattle.sheet_rules.proofs.ReaderLaws.{Gives, its_got, Gives-one, Gives-then, Gives-map, count_line_within, Gives-there}

-- the forms of some devices, in a sheet of `forms` forms
pub record WellFormedDevices (forms : ℕ) (fs : List ℕ) : Type 0 where
  pub there : (f : ℕ) → In f fs → f < forms
  pub few : length fs ≤ device_limit

pub device_lines : (forms : ℕ) (ls : List Line) (n : ℕ) → Gives (WellFormedDevices forms) (read_device_lines forms ls n)
unfolding read_device_lines
device_lines forms ls n =
    Gives-then (λ d. (1 ≤ d) × (d ≤ device_limit)) (WellFormedDevices forms) _ _
    (Gives-one (λ d. (1 ≤ d) × (d ≤ device_limit)) (count_line Place.Devices 1 device_limit) (count_line_within Place.Devices 1 device_limit) ls n) (λ d w ls n.
    Gives-map (λ fs c. record { there = c.there; few = omega (arith, c.counted, w.1) }) _ (Gives-there Place.Device forms d ls n))

pub read_devices_well_formed : (forms : ℕ) (ls : List Line) (n : ℕ) → Gives (WellFormedDevices forms) (read_devices forms ls n)
unfolding read_devices
read_devices_well_formed forms ls n = go (next_is Place.Devices ls)
  where
    go : (b : Bool) → Gives (WellFormedDevices forms) (cond b (read_device_lines forms ls n) (give [] ls n))
    go true = device_lines forms ls n
    go false = its_got (record { there = λ f i. absurd (In-nil i); few = omega arith })
