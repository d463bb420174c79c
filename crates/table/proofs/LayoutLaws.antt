-- The plan of the work buffer: each part ends where the next begins, and all fits in. Assumes nothing.
use Prim.Native.Nat.{◌+◌, ◌<◌}
use native.Mathlib.Omega.{arith}
use mathlib.Core.Path.{◌≡◌, refl}
use Rattle.table.specs.Layout.{main_count_at, device_count_at, device_address, row_address, member_address, form_address, keep_address, part_address, instr_address, pool_address, table_end, fit_address, place_address, slot_row_address, object_address, kept_address, field_address, frame_address, slot_address, state_end, mark_address, code_notes_at, marks_end, form_notes_address, notes_end, work_size}

-- the parts, one after another
pub record Planned : Type 0 where
  pub counts : main_count_at + 1 ≡ device_count_at
  pub device_count : device_count_at + 1 ≡ device_address 0
  pub devices : device_address 7 < row_address 0
  pub rows : row_address 63 + 36 ≡ form_address 0
  pub forms : form_address 63 + 36 ≡ instr_address 0
  pub instrs : instr_address 1023 + 11 ≡ table_end
  pub pool : pool_address 1024 ≡ table_end
  pub table : table_end ≡ fit_address 0 0
  pub fit : fit_address 63 63 + 1 ≡ slot_row_address 0
  pub places : place_address 0 0 ≡ fit_address 0 0
  pub slots : slot_row_address 63 + 1 ≡ object_address 0
  pub objects : object_address 255 + 17 ≡ frame_address 0
  pub frames : frame_address 63 + 48 ≡ state_end
  pub state : state_end ≡ mark_address 0
  pub marks : mark_address 255 + 1 ≡ code_notes_at
  pub notes : code_notes_at + 44 ≡ marks_end
  pub noted : marks_end ≡ form_notes_address 0
  pub form_notes : form_notes_address 63 + 44 ≡ notes_end
  pub spare : notes_end + 2180 ≡ work_size
  -- within a row, a form, an object and a frame
  pub members : member_address 0 7 + 4 ≡ row_address 1
  pub keeps : keep_address 0 7 + 1 ≡ part_address 0 0
  pub parts : part_address 0 7 + 3 < form_address 1
  pub kept : kept_address 0 7 + 1 ≡ field_address 0 0
  pub fields : field_address 0 7 + 1 ≡ object_address 1
  pub slots_in : slot_address 0 43 + 1 ≡ frame_address 1

pub planned : Planned
planned =
    record {
      counts = refl;
      device_count = refl;
      devices = omega arith;
      rows = refl;
      forms = refl;
      instrs = refl;
      pool = refl;
      table = refl;
      fit = refl;
      places = refl;
      slots = refl;
      objects = refl;
      frames = refl;
      state = refl;
      marks = refl;
      notes = refl;
      noted = refl;
      form_notes = refl;
      spare = refl;
      members = refl;
      keeps = refl;
      parts = omega arith;
      kept = refl;
      fields = refl;
      slots_in = refl;
    }
