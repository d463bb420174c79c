-- The numbers that an instruction's key asks for are there, so what was stored is the rule's instruction. Assumes nothing.
use Prim.Native.Nat.{ℕ}
use mathlib.Core.Path.{◌≡◌, sym, ap}
use lib.Dec.{T, lit≤}
use lib.ListN.{drop}
use Rattle.sheet_rules.specs.declared.Operation.{Operation}
use Rattle.sheet_rules.specs.declared.Operation.TheVariants.{New, Call, Get, Put, Copy}
use Rattle.sheet_rules.specs.declared.Place.{Place}
use Rattle.sheet_rules.specs.declared.Place.TheVariants.{Types, Row, Member, Forms, Form, Keep, Init, Body, Devices, Device, Main, Instruction, Nowhere}
use Rattle.sheet_rules.specs.Keys.{same_place, operation_of}
use Rattle.sheet_rules.specs.Sheet.{new, call, get, put, copy}
use Rattle.sheet_rules.specs.FormLines.{instr_of}
use Rattle.lexer.specs.declared.numbers.Numbers.{Numbers}
use Rattle.lexer.specs.Told.{list_of, Fitting}
use Rattle.line_judges.proofs.JudgeLaws.{number_first, number_second, number_third}
use Rattle.table.specs.View.{operation_code, instr_from}

module _ (ns : Numbers) where
  of_operation : (o : Operation) → Fitting (Instruction o) ns → instr_of o (list_of ns) ≡ instr_from (operation_code o) ns.count ns.values
  unfolding instr_from list_of
  of_operation New h = ap (λ (f : ℕ). new f (drop 1 (list_of ns))) (number_first (Instruction New) ns h)
  of_operation Call h =
      let k : Place = Instruction Call in
      λ x. call (number_first k ns h x) (number_second k ns h (lit≤ tt) x) (number_third k ns h (lit≤ tt) x)
  of_operation Get h = ap get (number_first (Instruction Get) ns h)
  of_operation Put h = let k : Place = Instruction Put in λ x. put (number_first k ns h x) (number_second k ns h (lit≤ tt) x)
  of_operation Copy h = ap copy (number_first (Instruction Copy) ns h)

  pub stored_rule : (k : Place) → Fitting k ns → T (same_place k (Instruction New))
      → instr_from (operation_code (operation_of k)) ns.count ns.values ≡ instr_of (operation_of k) (list_of ns)
  stored_rule (Instruction operation) h t = sym (of_operation operation h)
  stored_rule Types h t = absurd t
  stored_rule Row h t = absurd t
  stored_rule (Member kind) h t = absurd t
  stored_rule Forms h t = absurd t
  stored_rule Form h t = absurd t
  stored_rule Keep h t = absurd t
  stored_rule Init h t = absurd t
  stored_rule Body h t = absurd t
  stored_rule Devices h t = absurd t
  stored_rule Device h t = absurd t
  stored_rule Main h t = absurd t
  stored_rule Nowhere h t = absurd t
