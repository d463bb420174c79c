-- What an instruction line names, by its operation and numbers, as the code reads it; InstrLaws ties it to the rules' instruction.
use Rattle.std.specs.Prelude.{ℕ, Bool, true, ◌&&◌, ltb, drop}
use Rattle.sheet_rules.specs.declared.Operation.{Operation}
use Rattle.sheet_rules.specs.declared.Operation.TheVariants.{New, Call, Get, Put, Copy}
use Rattle.sheet_rules.specs.Reader.{nth}
use Rattle.sheet_rules.specs.FormLines.{all_below}
use Rattle.lexer.specs.declared.numbers.Numbers.{Numbers}
use Rattle.lexer.specs.Told.{list_of}

-- the name of an instruction that has one
unfoldable pub name_in : Operation → Numbers → ℕ
name_in New ns = 0
name_in Call ns = nth ns.values 1
name_in Get ns = nth ns.values 0
name_in Put ns = nth ns.values 0
name_in Copy ns = 0

-- the form and the slots that an instruction names exist
unfoldable pub exist_in : ℕ → ℕ → Operation → Numbers → Bool
exist_in forms filled New ns = ltb (nth ns.values 0) forms && all_below filled (drop 1 (list_of ns))
exist_in forms filled Call ns = ltb (nth ns.values 0) filled && ltb (nth ns.values 2) filled
exist_in forms filled Get ns = true
exist_in forms filled Put ns = ltb (nth ns.values 1) filled
exist_in forms filled Copy ns = ltb (nth ns.values 0) filled
