-- The walk along two rows of the sheet in a whole buffer: what its calls ask for, and a law for each turn and each end; and the kinds
-- before it. Assumes nothing.
use Prim.Native.Nat.{ℕ, suc, ◌+◌, ◌-◌, ◌%◌, ◌≤◌, ◌<◌}
use native.Mathlib.Omega.{arith}
use native.Mathlib.Nat.{mod-lt, zero-lt-suc}
use native.Mathlib.Numerals.{add-one}
use mathlib.Core.Path.{◌≡◌, sym, ap, ap₂, ◌∙◌, subst}
use mathlib.Core.Bool.{Bool, cond}
use mathlib.Core.List.{List, [], ◌∷◌}
use mathlib.Core.Option.{Option, some}
use lib.Dec.{T}
use lib.ListN.{length, get_or, drop}
use borrow.Author.Tests.{eq-eqb, ne_eqb}
use Rattle.lists.proofs.InLaws.{In-get_or}
use Rattle.lists.proofs.Tests.{clash}
use Rattle.sheet_rules.specs.declared.Member.{Member}
use Rattle.sheet_rules.specs.declared.FitAnswer.TheVariants.{Yes, Unmet}
use Rattle.sheet_rules.specs.Sheet.{no_member}
use Rattle.sheet_rules.specs.RowLines.{name_of, mentions_below}
use Rattle.type_rules.specs.declared.Walk.{Walk}
use Rattle.type_rules.specs.Fit.{members_answer}
use Rattle.type_rules.specs.Passed.{passed}
use Rattle.type_rules.specs.Walk.{ends, walk, turns_of}
use Rattle.type_rules.proofs.AgreeLaws.{mentions_more}
use Rattle.type_rules.proofs.EnoughLaws.{turn_skip, turn_lack, turn_both, walk_enough}
use Rattle.type_rules.proofs.WalkLaws.{past, from}
use Rattle.table.specs.Layout.{work_size}
use Rattle.table.specs.View.{member_in}
use Rattle.table.specs.Whole.{Whole}
use Rattle.table.proofs.SheetLaws.{member_row_small, member_small, member_there}
use Rattle.fit.specs.Told.{first_bit, tells, MatchAt, BothMatch}
use Rattle.fit_answer.specs.Told.{row_of, members_walk}

-- the members of a row of the sheet in the buffer
abbrev members : List ℕ → ℕ → List Member
members w a = (row_of w a).members

-- member i of row a
abbrev one_of : List ℕ → ℕ → ℕ → Member
one_of w a i = get_or (members w a) i no_member

-- where the walk stands after some turns, i members of row a and j of row b behind it: with the turns that are left it ends where it
-- ends from the start
pub record Going (w : List ℕ) (a b turn i j : ℕ) : Type 0 where
  pub same : walk (tells w) (turns_of (row_of w a) (row_of w b) - turn) i (drop i (members w a)) (drop j (members w b)) ≡ members_walk w a b

pub going : (w : List ℕ) (a b : ℕ) → Going w a b 0 0 0
going w a b = record { same = ap (λ (t : ℕ). walk (tells w) t 0 (members w a) (members w b)) (omega arith) }

module _ {w : List ℕ} (h : Whole w) where
  -- member i of row a, of n members, may be read
  pub member_asks : (a i : ℕ) {n : ℕ} → n ≡ length (row_of w a).members → i < n → (a < 64) × (i < 8) × (work_size ≤ length w)
  member_asks a i c l = let k : i < length (members w a) = omega arith in (member_row_small w h a i k, member_small w h a i k, h.size)

  -- and mentions rows that the table has
  mentioned : (a i : ℕ) → i < length (members w a) → T (mentions_below 64 (member_in w a i))
  mentioned a i k =
      let s : a < 64 = member_row_small w h a i k in
      subst (λ (x : Member). T (mentions_below 64 x)) (member_there w h a i k)
      (mentions_more a 64 (omega arith) (get_or (members w a) i no_member) ((h.sheet.rows a).lower (get_or (members w a) i no_member) (In-get_or (members w a) i no_member k)))

  -- as many turns as the two rows have members are enough
  enough : (a b : ℕ) → let x = members_answer (tells w) (members w a) (members w b) in members_walk w a b ≡ ends x (0 + passed x (members w a) (members w b))
  enough a b = walk_enough (tells w) (turns_of (row_of w a) (row_of w b)) 0 (members w a) (members w b) (h.sheet.rows a).names (h.sheet.rows b).names (omega arith)

  module _ {a b turn i j across down : ℕ} (ea : across ≡ length (row_of w a).members) (eb : down ≡ length (row_of w b).members) (g : Going w a b turn i j) where
    -- row b is at its end
    pub met : down ≤ j → some (record { answer = Yes; passed = i }) ≡ members_walk w a b
    unfolding walk
    met l = ap (walk (tells w) (turns_of (row_of w a) (row_of w b) - turn) i (drop i (members w a))) (sym (past (members w b) j (omega arith))) ∙ g.same

    -- and so it is when all turns are spent
    pub spent : across + down ≤ turn → some (record { answer = Yes; passed = i }) ≡ members_walk w a b
    unfolding walk
    spent l = go (drop j (members w b)) (ap (λ (t : ℕ). walk (tells w) t i (drop i (members w a)) (drop j (members w b))) (omega arith) ∙ g.same)
      where
        go : (ys : List Member) → walk (tells w) 0 i (drop i (members w a)) ys ≡ members_walk w a b → ends Yes i ≡ members_walk w a b
        go [] e = e
        go (y ∷ ys) e = let c = e ∙ enough a b in clash (cc)

    module _ (d : turn < across + down) (l : j < down) {name : ℕ} (en : name ≡ name_of (one_of w b j)) where
      abbrev left : ℕ
      left = turns_of (row_of w a) (row_of w b) - (turn + 1)

      -- one turn is there for member j
      taken : walk (tells w) (suc left) i (drop i (members w a)) (one_of w b j ∷ drop (j + 1) (members w b)) ≡ members_walk w a b
      taken =
          let one : suc left ≡ turns_of (row_of w a) (row_of w b) - turn = omega arith in
          ap₂ (λ (t : ℕ) (ys : List Member). walk (tells w) t i (drop i (members w a)) ys) one (sym (from (members w b) j (omega arith))) ∙ g.same

      -- row a is at its end
      pub row_ended : across ≤ i → some (record { answer = Unmet name; passed = i }) ≡ members_walk w a b
      unfolding walk
      row_ended k =
          ap (λ (n : ℕ). ends (Unmet n) i) en
          ∙ ap (λ (xs : List Member). walk (tells w) (suc left) i xs (one_of w b j ∷ drop (j + 1) (members w b))) (sym (past (members w a) i (omega arith)))
          ∙ taken

      module _ (k : i < across) {given : ℕ} (eg : given ≡ name_of (one_of w a i)) where
        abbrev x : Member
        x = one_of w a i

        abbrev y : Member
        y = one_of w b j

        abbrev xs : List Member
        xs = drop (i + 1) (members w a)

        abbrev ys : List Member
        ys = drop (j + 1) (members w b)

        both_taken : walk (tells w) (suc left) i (x ∷ xs) (y ∷ ys) ≡ members_walk w a b
        both_taken = ap (λ (zs : List Member). walk (tells w) (suc left) i zs (y ∷ ys)) (sym (from (members w a) i (omega arith))) ∙ taken

        pub lacking : name < given → some (record { answer = Unmet name; passed = i }) ≡ members_walk w a b
        lacking q = ap (λ (n : ℕ). ends (Unmet n) i) en ∙ sym (turn_lack (tells w) left i x y xs ys (omega arith)) ∙ both_taken

        -- the next member of row a, with the same of row b
        pub skipped : given < name → Going w a b (turn + 1) (i + 1) j
        skipped q =
            record {
              same =
                  ap₂ (λ (n : ℕ) (zs : List Member). walk (tells w) left n xs zs) (add-one i) (from (members w b) j (omega arith))
                  ∙ sym (turn_skip (tells w) left i x y xs ys (omega arith))
                  ∙ both_taken;
            }

        module _ (low : name ≤ given) (high : given ≤ name) where
          same_name : name_of x ≡ name_of y
          same_name = omega arith

          there_x : x ≡ member_in w a i
          there_x = member_there w h a i (omega arith)

          there_y : y ≡ member_in w b j
          there_y = member_there w h b j (omega arith)

          pub match_asks : {v : List ℕ} → v ≡ w → MatchAt v a i b j
          match_asks e =
              let p = member_asks a i ea k in
              let q = member_asks b j eb l in
              subst (λ (u : List ℕ). MatchAt u a i b j) (sym e)
              (record {
                size = h.size;
                first = (p.0, p.1, mentioned a i (omega arith));
                second = (q.0, q.1, mentioned b j (omega arith));
                named = ap name_of (sym there_x) ∙ same_name ∙ ap name_of there_y;
              })

          module _ {v : List ℕ} (e : v ≡ w) {r : ℕ} (both : BothMatch v (member_in v a i) (member_in v b j) r) where
            both_here : BothMatch w x y r
            both_here =
                subst (λ (m : Member). BothMatch w m y r) (sym there_x)
                (subst (λ (m : Member). BothMatch w (member_in w a i) m r) (sym there_y)
                (subst (λ (u : List ℕ). BothMatch u (member_in u a i) (member_in u b j) r) e both))

            -- the turn, by whether they match
            abbrev turned : Bool → Option Walk
            turned t = cond t (walk (tells w) left (suc i) xs ys) (ends (Unmet (name_of y)) (suc i))

            chosen : turned (first_bit r) ≡ members_walk w a b
            chosen = ap turned both_here.first ∙ sym (turn_both (tells w) left i x y xs ys same_name) ∙ both_taken

            pub unmatched : r % 2 ≡ 0 → some (record { answer = Unmet name; passed = i + 1 }) ≡ members_walk w a b
            unmatched z =
                ap₂ (λ (n m : ℕ). ends (Unmet n) m) en (add-one i) ∙ ap turned (sym (ne_eqb (r % 2) 1 (λ e. omega arith))) ∙ chosen

            pub matched : (r % 2 ≡ 0 → ⊥) → Going w a b (turn + 1) (i + 1) (j + 1)
            matched z =
                let odd : r % 2 ≡ 1 = let m : r % 2 < 2 = mod-lt r (zero-lt-suc 1) in omega arith in
                record {
                  same = ap (λ (n : ℕ). walk (tells w) left n xs ys) (add-one i) ∙ ap turned (sym (eq-eqb (r % 2) 1 odd)) ∙ chosen;
                }
