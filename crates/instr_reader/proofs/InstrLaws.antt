-- Reading one instruction: a law for each exit. Assumes nothing.
use Prim.Native.Nat.{ℕ, ◌+◌, ◌≤◌, ◌<◌}
use native.Mathlib.Omega.{arith}
use mathlib.Core.Path.{◌≡◌, refl, sym, ap, ◌∙◌, subst}
use mathlib.Core.List.{List}
use lib.Dec.{T}
use Rattle.sheet_rules.specs.declared.Operation.{Operation}
use Rattle.sheet_rules.specs.Keys.{operation_of}
use Rattle.table.specs.Layout.{instr_address}
use Rattle.table.specs.View.{operation_code, instr_from}
use Rattle.line_reader.specs.declared.Cursor.{Cursor}
use Rattle.line_reader.specs.declared.TakenLine.{TakenLine}
use Rattle.line_reader.specs.Told.{got_at, instruction, line_read, InstrTold, Advanced}
use Rattle.reader_loop.proofs.ThenLaws.{past, item_refused}
use Rattle.instr_reader.specs.Reads.{StoredInstr, InstrRead}
use Rattle.instr_reader.proofs.CountLaws.{stored_rule}
use Rattle.std.specs.declared.result.Result.{Result}
use Rattle.std.specs.declared.result.Result.TheVariants.{Ok, Err}
use Rattle.sheet_rules.specs.declared.Refusal.{Refusal}
use Rattle.line_reader.proofs.ExitLaws.{Passes}

-- by what the line's reader gave
module _ {text : List ℕ} {forms filled : ℕ} {from : Cursor} (w : List ℕ) {t : Result TakenLine Refusal} (told : InstrTold forms filled text from t) where
  pub instr_refused : {q : Refusal} → t ≡ Err q → {r : Result Cursor Refusal} → Passes r q → InstrRead text forms filled from w w r
  instr_refused e = item_refused _ _ _ (instr_address from.used) (instr_address from.used + 11) from w (sym told.told ∙ ap (line_read text instruction) e)

  module _ {line : TakenLine} (e : t ≡ Ok line) where
    pub instr_kept : from.used < 1024 → {w' : List ℕ} {o : Operation} {p : ℕ} → o ≡ operation_of line.place → p ≡ from.used
        → StoredInstr p (instr_from (operation_code o) line.numbers.count line.numbers.values) w w'
        → InstrRead text forms filled from w w' (Ok (record { at = line.next.at; line = line.next.line; used = from.used + 1 }))
    instr_kept few {w'} {o} eo ep stored =
        let s = subst (λ (x : ℕ). StoredInstr x (instr_from (operation_code o) line.numbers.count line.numbers.values) w w') ep stored in
        let q = past e told.onward in
        let l : from.at ≤ line.next.at = omega (arith, q.later) in
        let u : from.used + 1 ≤ 1024 = omega arith in
        record {
          told =
              ap (got_at text line.next)
              (s.holds ∙ ap (λ (x : Operation). instr_from (operation_code x) line.numbers.count line.numbers.values) eo
              ∙ stored_rule line.numbers line.place q.fitting (subst T (sym (told.stands line e)) tt))
              ∙ sym (ap (line_read text instruction) e) ∙ told.told;
          only = s.only;
          advanced = Advanced.moved l (record { small = q.room.small; inside = q.room.inside; lines = q.room.lines; pool = u }) refl;
        }
