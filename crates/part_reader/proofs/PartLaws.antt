-- Reading a part of a form: a law for each exit. Assumes nothing.
use Prim.Native.Nat.{ℕ, suc, ◌+◌, ◌≤◌, ◌<◌}
use native.Mathlib.Omega.{arith}
use mathlib.Core.Path.{◌≡◌, refl, sym, ap, ap₂, ◌∙◌, subst}
use mathlib.Core.Bool.{cond}
use mathlib.Core.List.{List}
use lib.Dec.{eqb}
use lib.ListN.{length, drop}
use Rattle.lists.proofs.TabLaws.{length-tab}
use Rattle.sheet_rules.specs.declared.Place.{Place}
use Rattle.sheet_rules.specs.declared.Member.{Member}
use Rattle.sheet_rules.specs.declared.Member.TheVariants.{Method, Field}
use Rattle.sheet_rules.specs.Lines.{lines_of}
use Rattle.sheet_rules.specs.Sheet.{Part, init, body, size_of_part}
use Rattle.sheet_rules.specs.Reader.{refused, Reader, and_then, give}
use Rattle.sheet_rules.specs.FormLines.{body_line, read_instrs, read_part}
use Rattle.sheet_rules.proofs.ReaderLaws.{Gives-one}
use Rattle.sheet_rules.proofs.FormLinesLaws as Body
use Rattle.sheet_rules.proofs.FormLinesLaws.{body_line-Room}
use Rattle.table.specs.Layout.{part_address, work_size}
use Rattle.table.specs.View.{cell, instr_in, instrs_in, part_from, part_in}
use Rattle.table.specs.Pool.{OnlyFrom, part_end}
use Rattle.table.specs.Stores.{part_put}
use Rattle.table.proofs.PoolLaws.{from_refl, from_trans, from→only, only→from, instrs→from}
use Rattle.table.proofs.StoreLaws.{three_only, three_0, three_1, three_2}
use Rattle.line_reader.specs.declared.Cursor.{Cursor}
use Rattle.line_reader.specs.declared.TakenLine.{TakenLine}
use Rattle.line_reader.specs.Told.{read_from, got_at, number, LineTold, read_told, Advanced}
use Rattle.reader_loop.proofs.LoopLaws.{Moved-on}
use Rattle.reader_loop.proofs.ThenLaws.{line_then, line_stop, line_gives, past, past_moved, Advanced-sooner}
use Rattle.instr_reader.specs.Reads.{InstrsRead}
use Rattle.part_reader.specs.Reads.{PartRead, field_part, body_rest, method_part}
use Rattle.std.specs.declared.result.Result.{Result}
use Rattle.std.specs.declared.result.Result.TheVariants.{Ok, Err}
use Rattle.sheet_rules.specs.declared.Refusal.{Refusal}
use Rattle.line_reader.proofs.ExitLaws.{Passes, passed_on, no_answer, same_answer}
use Rattle.sheet_rules.specs.Reader.{nth}

module _ {text : List ℕ} (f j : ℕ) {from : Cursor} (w : List ℕ) where
  -- nothing was stored
  part_refused : (part : Reader Part) {q : Refusal} → read_from text from part ≡ refused q.reason q.line → {r : Result Cursor Refusal} → Passes r q → PartRead text f j part from w w r
  part_refused part {q} x h =
      let same = from_refl (part_address f j) from.used w in
      passed_on (PartRead text f j part from w w) h
      (record {
        read = record { told = sym x; only = from→only (part_address f j) from.used same; advanced = Advanced.stopped };
        pool = same;
        ends = λ to c. no_answer c;
      })

  -- by what a line's reader gave
  module _ {keeps : ℕ} {p : Result TakenLine Refusal} (told : LineTold Place.Init keeps text from p) where
    pub field_refused : {q : Refusal} → p ≡ Err q → {r : Result Cursor Refusal} → Passes r q → PartRead text f j (field_part keeps) from w w r
    unfolding field_part
    field_refused e = part_refused (field_part keeps) (line_stop text number (λ k. give (init k)) told.told e)

    module _ (size : work_size ≤ length w) {line : TakenLine} (e : p ≡ Ok line) where
      abbrev stored : List ℕ
      stored = part_put w f j 0 (nth line.numbers.values 0) 0

      tag : cell stored (part_address f j) ≡ 0
      tag = three_0 w (part_address f j) 0 (nth line.numbers.values 0) 0 (omega arith)

      init_pool : OnlyFrom (part_address f j) from.used w stored
      init_pool = only→from from.used (omega arith) (three_only w (part_address f j) 0 (nth line.numbers.values 0) 0)

      init_part : part_in stored f j ≡ init (nth line.numbers.values 0)
      unfolding part_in
      init_part = ap₂ (λ (t a : ℕ). part_from stored t a (cell stored (part_address f j + 2))) tag (three_1 w (part_address f j) 0 (nth line.numbers.values 0) 0 (omega arith))

      init_ends : part_end stored f j ≤ line.next.used
      init_ends =
          let e : part_end stored f j ≡ 0 = ap (λ (t : ℕ). cond (eqb t 0) 0 (cell stored (part_address f j + 1) + cell stored (part_address f j + 2))) tag in
          omega arith

      no_more : from.used ≡ from.used + size_of_part (part_in stored f j)
      no_more = let e : size_of_part (part_in stored f j) ≡ 0 = ap size_of_part init_part in omega arith

      init_read : PartRead text f j (field_part keeps) from w stored (Ok line.next)
      unfolding field_part
      init_read =
          record {
            read =
                record {
                  told = ap (got_at text line.next) init_part ∙ sym (line_then text number (λ k. give (init k)) told.told e);
                  only = from→only (part_address f j) from.used init_pool;
                  advanced = subst (λ (u : ℕ). Advanced text from u (Ok line.next)) no_more (past_moved e told.onward);
                };
            pool = init_pool;
            ends = λ to' c. subst (λ (x : Cursor). part_end stored f j ≤ x.used) (same_answer c) init_ends;
          }

      pub field_read : {w' : List ℕ} → w' ≡ part_put w f j 0 (nth line.numbers.values 0) 0 → PartRead text f j (field_part keeps) from w w' (Ok line.next)
      field_read s = subst (λ (x : List ℕ). PartRead text f j (field_part keeps) from w x (Ok line.next)) (sym s) init_read

  -- a body's instructions, read after its part was stored
  module _ (forms keeps count : ℕ) (hf : f < 64) (hj : j < 8) (some : 1 ≤ count) (room : from.used + count ≤ 1024) (size : work_size ≤ length w)
      {w₁ : List ℕ} (stored : w₁ ≡ part_put w f j 1 from.used count) {w' : List ℕ} {r : Result Cursor Refusal} (m : InstrsRead text count forms (keeps + 2) from w₁ w' r) where
    put_only : OnlyFrom (part_address f j) from.used w w₁
    put_only = subst (OnlyFrom (part_address f j) from.used w) (sym stored) (only→from from.used (omega arith) (three_only w (part_address f j) 1 from.used count))

    body_pool : OnlyFrom (part_address f j) from.used w w'
    body_pool = from_trans {lo' = part_address f j} {p' = from.used} (omega arith) (omega arith) put_only (instrs→from from.used count (omega arith) some room m.only)

    tag_still : cell w' (part_address f j) ≡ 1
    tag_still = m.only.below (part_address f j) (omega arith) ∙ ap (λ (x : List ℕ). cell x (part_address f j)) stored ∙ three_0 w (part_address f j) 1 from.used count (omega arith)

    first_still : cell w' (part_address f j + 1) ≡ from.used
    first_still = m.only.below (part_address f j + 1) (omega arith) ∙ ap (λ (x : List ℕ). cell x (part_address f j + 1)) stored ∙ three_1 w (part_address f j) 1 from.used count (omega arith)

    second_still : cell w' (part_address f j + 2) ≡ count
    second_still = m.only.below (part_address f j + 2) (omega arith) ∙ ap (λ (x : List ℕ). cell x (part_address f j + 2)) stored ∙ three_2 w (part_address f j) 1 from.used count (omega arith)

    body_part : part_in w' f j ≡ body (instrs_in w' from.used count)
    unfolding part_in
    body_part = λ x. part_from w' (tag_still x) (first_still x) (second_still x)

    body_size : size_of_part (part_in w' f j) ≡ count
    body_size = ap size_of_part body_part ∙ length-tab (λ k. instr_in w' (from.used + k)) count

    body_end : part_end w' f j ≡ from.used + count
    body_end = λ x. cond (eqb (tag_still x) 0) 0 (first_still x + second_still x)

    body_told : (s : Result Cursor Refusal) → read_told text s (body (instrs_in w' from.used count)) ≡ and_then (read_told text s (instrs_in w' from.used count)) (λ is. give (body is))
    unfolding and_then
    body_told (Ok to) = refl
    body_told (Err q) = refl

    two_more : keeps + 2 ≡ suc (suc keeps)
    two_more = omega arith

    body_read : PartRead text f j (body_rest forms keeps count) from w w' r
    unfolding body_rest
    body_read =
        record {
          read =
              record {
                told =
                    ap (read_told text r) body_part ∙ body_told r
                    ∙ ap (λ x. and_then x (λ is. give (body is))) (m.told ∙ ap (λ (k : ℕ). read_from text from (read_instrs forms k count)) two_more);
                only = from→only (part_address f j) from.used body_pool;
                advanced = subst (λ (u : ℕ). Advanced text from u r) (ap (λ (k : ℕ). from.used + k) (sym body_size)) m.advanced;
              };
          pool = body_pool;
          ends = λ to c. let u = (Moved-on c m.advanced).pool in omega (arith, body_end, u);
        }

  -- the same, where the count was made wide
  pub body_kept : (forms keeps count : ℕ) → f < 64 → j < 8 → 1 ≤ count → from.used + count ≤ 1024 → work_size ≤ length w → {w₁ : List ℕ} → w₁ ≡ part_put w f j 1 from.used count
      → {number : ℕ} → number ≡ count → {w' : List ℕ} {r : Result Cursor Refusal} → InstrsRead text number forms (keeps + 2) from w₁ w' r → PartRead text f j (body_rest forms keeps count) from w w' r
  body_kept forms keeps count hf hj some room size {w₁} stored en {w'} {r} m =
      body_read forms keeps count hf hj some room size stored (subst (λ (k : ℕ). InstrsRead text k forms (keeps + 2) from w₁ w' r) en m)

  -- by what the `body` line's reader gave
  module _ (forms keeps : ℕ) {p : Result TakenLine Refusal} (told : LineTold Place.Body from.used text from p) where
    pub method_refused : {q : Refusal} → p ≡ Err q → {r : Result Cursor Refusal} → Passes r q → PartRead text f j (method_part forms keeps from.used) from w w r
    unfolding method_part
    method_refused e = part_refused (method_part forms keeps from.used) (line_stop text number (body_rest forms keeps) told.told e)

    module _ {head : TakenLine} (e : p ≡ Ok head) where
      pub body_room : Body.Room head.next.used (nth head.numbers.values 0)
      body_room =
          subst (λ (u : ℕ). Body.Room u (nth head.numbers.values 0)) (sym (past e told.onward).pool)
          (line_gives text number told.told e (Body.Room from.used) (Gives-one (Body.Room from.used) (body_line Place.Body from.used) (body_line-Room Place.Body from.used) (lines_of (drop from.at text)) from.line))

      pub method_read : {w' : List ℕ} {r : Result Cursor Refusal} → PartRead text f j (body_rest forms keeps (nth head.numbers.values 0)) head.next w w' r → PartRead text f j (method_part forms keeps from.used) from w w' r
      unfolding method_part
      method_read {w'} {r} m =
          let q = past e told.onward in
          record {
            read =
                record {
                  told = m.read.told ∙ sym (line_then text number (body_rest forms keeps) told.told e);
                  only = m.read.only;
                  advanced =
                      subst (λ (u : ℕ). Advanced text from (u + size_of_part (part_in w' f j)) r) q.pool
                      (Advanced-sooner (let l : from.at ≤ head.next.at = omega (arith, q.later) in l) m.read.advanced);
                };
            pool = subst (λ (u : ℕ). OnlyFrom (part_address f j) u w w') q.pool m.pool;
            ends = m.ends;
          }

  -- by the member
  module _ (forms keeps : ℕ) {member : Member} {w' : List ℕ} {r : Result Cursor Refusal} where
    pub part_of_method : {a b c : ℕ} → member ≡ Method a b c → PartRead text f j (method_part forms keeps from.used) from w w' r
        → PartRead text f j (read_part forms keeps from.used member) from w w' r
    unfolding read_part method_part body_rest
    part_of_method e m = subst (λ (x : Member). PartRead text f j (read_part forms keeps from.used x) from w w' r) (sym e) m

    pub part_of_field : {a b : ℕ} → member ≡ Field a b → PartRead text f j (field_part keeps) from w w' r
        → PartRead text f j (read_part forms keeps from.used member) from w w' r
    unfolding read_part field_part
    part_of_field e m = subst (λ (x : Member). PartRead text f j (read_part forms keeps from.used x) from w w' r) (sym e) m
