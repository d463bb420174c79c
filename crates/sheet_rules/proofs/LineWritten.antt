-- A line that was judged good is the line of what was made of it. Assumes nothing.
use Prim.Native.Nat.{ℕ, zero, suc, ◌≤◌}
use native.Mathlib.Omega.{arith}
use mathlib.Core.Path.{◌≡◌, refl, sym, ap, ◌∙◌, subst}
use mathlib.Core.List.{List, [], ◌∷◌}
use lib.Dec.{T, leb, leb→le}
use lib.ListN.{length, drop}
use Rattle.lists.proofs.Tests.{and_left}
use Rattle.sheet_rules.specs.declared.MemberKind.{MemberKind}
use Rattle.sheet_rules.specs.declared.Operation.{Operation}
use Rattle.sheet_rules.specs.declared.Place.{Place}
use Rattle.sheet_rules.specs.Limits.{member_limit}
use Rattle.sheet_rules.specs.Keys.{Count, exactly, count_of, place_number, stands, member_kind, operation_of}
use Rattle.sheet_rules.specs.Lines.{Line, line}
use Rattle.sheet_rules.specs.Sheet.{Row}
use Rattle.sheet_rules.specs.Reader.{nth, count_line, existing_line}
use Rattle.sheet_rules.specs.declared.Member.{Member}
use Rattle.sheet_rules.specs.RowLines.{kind_of, member_of, Heading, row_line, member_line}
use Rattle.sheet_rules.specs.FormLines.{form_line, body_line, instr_of, instr_line}
use Rattle.sheet_rules.specs.Print.{kind_number, member_written, instr_written}
use Rattle.sheet_rules.proofs.KeysLaws.{place_from, stands_place, stands_fewest, stands_most}
use Rattle.sheet_rules.proofs.ReaderLaws.{Judges, its_good, Judges-demand}

-- lists of one, two and three numbers

one_of : (ns : List ℕ) → length ns ≤ 1 → 1 ≤ length ns → ns ≡ nth ns 0 ∷ []
one_of [] u l = absurd (omega arith)
one_of (a ∷ []) u l = refl
one_of (a ∷ b ∷ ns) u l = absurd (omega arith)

two_of : (ns : List ℕ) → length ns ≤ 2 → 2 ≤ length ns → ns ≡ nth ns 0 ∷ nth ns 1 ∷ []
two_of [] u l = absurd (omega arith)
two_of (a ∷ []) u l = absurd (omega arith)
two_of (a ∷ b ∷ []) u l = refl
two_of (a ∷ b ∷ c ∷ ns) u l = absurd (omega arith)

three_of : (ns : List ℕ) → length ns ≤ 3 → 3 ≤ length ns → ns ≡ nth ns 0 ∷ nth ns 1 ∷ nth ns 2 ∷ []
three_of [] u l = absurd (omega arith)
three_of (a ∷ []) u l = absurd (omega arith)
three_of (a ∷ b ∷ []) u l = absurd (omega arith)
three_of (a ∷ b ∷ c ∷ []) u l = refl
three_of (a ∷ b ∷ c ∷ d ∷ ns) u l = absurd (omega arith)

some_of : (ns : List ℕ) → 1 ≤ length ns → ns ≡ nth ns 0 ∷ drop 1 ns
some_of [] l = absurd (omega arith)
some_of (a ∷ ns) l = refl

-- a place that has one key, with m numbers
record Sole (wanted : Place) (m : ℕ) : Type 0 where
  is : (a : MemberKind) (b : Operation) → place_from a b (place_number wanted) ≡ wanted
  count : count_of wanted ≡ exactly m

module _ {wanted : Place} {m : ℕ} (z : Sole wanted m) (k : Place) (ns : List ℕ) (t : T (stands wanted k ns)) where
  sole_place : k ≡ wanted
  sole_place = stands_place wanted k ns t ∙ z.is (member_kind k) (operation_of k)

  sole_least : m ≤ length ns
  sole_least = subst (λ (c : Count). c.fewest ≤ length ns) z.count (stands_fewest wanted k ns t sole_place)

  sole_most : length ns ≤ m
  sole_most = subst (λ (c : Count). length ns ≤ c.most) z.count (stands_most wanted k ns t sole_place)

Sole-1 : {wanted : Place} → Sole wanted 1 → (k : Place) (ns : List ℕ) → T (stands wanted k ns) → line k ns ∷ [] ≡ line wanted (nth ns 0 ∷ []) ∷ []
Sole-1 z k ns t = λ i. line (sole_place z k ns t i) (one_of ns (sole_most z k ns t) (sole_least z k ns t) i) ∷ []

Sole-2 : {wanted : Place} → Sole wanted 2 → (k : Place) (ns : List ℕ) → T (stands wanted k ns) → line k ns ∷ [] ≡ line wanted (nth ns 0 ∷ nth ns 1 ∷ []) ∷ []
Sole-2 z k ns t = λ i. line (sole_place z k ns t i) (two_of ns (sole_most z k ns t) (sole_least z k ns t) i) ∷ []

-- EACH LINE

-- the line of a place with one number
abbrev pub NumberWritten : Place → ℕ → List Line → Type 0
NumberWritten wanted n l = l ≡ line wanted (n ∷ []) ∷ []

count_written : {wanted : Place} → Sole wanted 1 → (low high : ℕ) (k : Place) (ns : List ℕ) → Judges (λ n. NumberWritten wanted n (line k ns ∷ [])) (count_line wanted low high k ns)
unfolding count_line
count_written z low high k ns = Judges-demand _ _ _ _ (λ t. Judges-demand _ _ _ _ (λ u. its_good (Sole-1 z k ns t)))

existing_written : {wanted : Place} → Sole wanted 1 → (bound : ℕ) (k : Place) (ns : List ℕ) → Judges (λ n. NumberWritten wanted n (line k ns ∷ [])) (existing_line wanted bound k ns)
unfolding existing_line
existing_written z bound k ns = Judges-demand _ _ _ _ (λ t. Judges-demand _ _ _ _ (λ u. its_good (Sole-1 z k ns t)))

body_line_written : {wanted : Place} → Sole wanted 1 → (used : ℕ) (k : Place) (ns : List ℕ) → Judges (λ n. NumberWritten wanted n (line k ns ∷ [])) (body_line wanted used k ns)
unfolding body_line
body_line_written z used k ns = Judges-demand _ _ _ _ (λ t. Judges-demand _ _ _ _ (λ u. its_good (Sole-1 z k ns t)))

pub types_written : (low high : ℕ) (k : Place) (ns : List ℕ) → Judges (λ n. NumberWritten Place.Types n (line k ns ∷ [])) (count_line Place.Types low high k ns)
types_written = count_written (record { is = λ a b. refl; count = refl })

pub forms_written_lem : (low high : ℕ) (k : Place) (ns : List ℕ) → Judges (λ n. NumberWritten Place.Forms n (line k ns ∷ [])) (count_line Place.Forms low high k ns)
forms_written_lem = count_written (record { is = λ a b. refl; count = refl })

pub devices_written_lem : (low high : ℕ) (k : Place) (ns : List ℕ) → Judges (λ n. NumberWritten Place.Devices n (line k ns ∷ [])) (count_line Place.Devices low high k ns)
devices_written_lem = count_written (record { is = λ a b. refl; count = refl })

pub device_written_lem : (bound : ℕ) (k : Place) (ns : List ℕ) → Judges (λ n. NumberWritten Place.Device n (line k ns ∷ [])) (existing_line Place.Device bound k ns)
device_written_lem = existing_written (record { is = λ a b. refl; count = refl })

pub keep_written_lem : (bound : ℕ) (k : Place) (ns : List ℕ) → Judges (λ n. NumberWritten Place.Keep n (line k ns ∷ [])) (existing_line Place.Keep bound k ns)
keep_written_lem = existing_written (record { is = λ a b. refl; count = refl })

pub init_written : (bound : ℕ) (k : Place) (ns : List ℕ) → Judges (λ n. NumberWritten Place.Init n (line k ns ∷ [])) (existing_line Place.Init bound k ns)
init_written = existing_written (record { is = λ a b. refl; count = refl })

pub body_written : (used : ℕ) (k : Place) (ns : List ℕ) → Judges (λ n. NumberWritten Place.Body n (line k ns ∷ [])) (body_line Place.Body used k ns)
body_written = body_line_written (record { is = λ a b. refl; count = refl })

pub main_written : (used : ℕ) (k : Place) (ns : List ℕ) → Judges (λ n. NumberWritten Place.Main n (line k ns ∷ [])) (body_line Place.Main used k ns)
main_written = body_line_written (record { is = λ a b. refl; count = refl })

-- K is the number of the kind that it says
kind_back : (n : ℕ) → n ≤ 1 → kind_number (kind_of n) ≡ n
kind_back zero h = refl
kind_back (suc zero) h = refl
kind_back (suc (suc n)) h = absurd (omega arith)

pub row_written_lem : (earlier : List Row) (k : Place) (ns : List ℕ)
    → Judges (λ h. line k ns ∷ [] ≡ line Place.Row (kind_number h.kind ∷ h.count ∷ []) ∷ []) (row_line earlier k ns)
unfolding row_line
row_written_lem earlier k ns =
    Judges-demand _ _ _ _ (λ t. Judges-demand _ _ _ _ (λ u. Judges-demand _ _ _ _ (λ v.
    its_good (Sole-2 (record { is = λ a b. refl; count = refl }) k ns t
    ∙ ap (λ (x : ℕ). line Place.Row (x ∷ nth ns 1 ∷ []) ∷ [])
    (sym (kind_back (nth ns 0) (leb→le (nth ns 0) 1 (and_left (leb (nth ns 0) 1) (leb (nth ns 1) member_limit) u))))))))

pub form_written_lem : (rows : ℕ) (k : Place) (ns : List ℕ) → Judges (λ h. line k ns ∷ [] ≡ line Place.Form (h.row ∷ h.count ∷ []) ∷ []) (form_line rows k ns)
unfolding form_line
form_written_lem rows k ns = Judges-demand _ _ _ _ (λ t. Judges-demand _ _ _ _ (λ u. Judges-demand _ _ _ _ (λ v. its_good (Sole-2 (record { is = λ a b. refl; count = refl }) k ns t))))

Member-back : (k : Place) (ns : List ℕ) → T (stands (Place.Member MemberKind.Method) k ns) → line k ns ∷ [] ≡ member_written (member_of (member_kind k) ns) ∷ []
Member-back k ns t = go (member_kind k) (stands_place (Place.Member MemberKind.Method) k ns t)
  where
    go : (m : MemberKind) → k ≡ Place.Member m → line k ns ∷ [] ≡ member_written (member_of m ns) ∷ []
    go MemberKind.Method e = λ i. line (e i) (three_of ns (stands_most (Place.Member MemberKind.Method) k ns t e) (stands_fewest (Place.Member MemberKind.Method) k ns t e) i) ∷ []
    go MemberKind.Field e = λ i. line (e i) (two_of ns (stands_most (Place.Member MemberKind.Method) k ns t e) (stands_fewest (Place.Member MemberKind.Method) k ns t e) i) ∷ []

pub member_written_lem : (bound : ℕ) (earlier : List Row) (h : Heading) (before : List Member) (k : Place) (ns : List ℕ)
    → Judges (λ m. line k ns ∷ [] ≡ member_written m ∷ []) (member_line bound earlier h before k ns)
unfolding member_line
member_written_lem bound earlier h before k ns =
    Judges-demand _ _ _ _ (λ t. Judges-demand _ _ _ _ (λ u. Judges-demand _ _ _ _ (λ v. Judges-demand _ _ _ _ (λ w. Judges-demand _ _ _ _ (λ x.
    its_good (Member-back k ns t))))))

instr_back : (k : Place) (ns : List ℕ) → T (stands (Place.Instruction Operation.New) k ns) → line k ns ∷ [] ≡ instr_written (instr_of (operation_of k) ns) ∷ []
instr_back k ns t = go (operation_of k) (stands_place wanted k ns t)
  where
    wanted : Place
    wanted = Place.Instruction Operation.New

    go : (o : Operation) → k ≡ Place.Instruction o → line k ns ∷ [] ≡ instr_written (instr_of o ns) ∷ []
    go Operation.New e = λ i. line (e i) (some_of ns (stands_fewest wanted k ns t e) i) ∷ []
    go Operation.Call e = λ i. line (e i) (three_of ns (stands_most wanted k ns t e) (stands_fewest wanted k ns t e) i) ∷ []
    go Operation.Get e = λ i. line (e i) (one_of ns (stands_most wanted k ns t e) (stands_fewest wanted k ns t e) i) ∷ []
    go Operation.Put e = λ i. line (e i) (two_of ns (stands_most wanted k ns t e) (stands_fewest wanted k ns t e) i) ∷ []
    go Operation.Copy e = λ i. line (e i) (one_of ns (stands_most wanted k ns t e) (stands_fewest wanted k ns t e) i) ∷ []

pub instr_written_lem : (forms filled : ℕ) (k : Place) (ns : List ℕ) → Judges (λ x. line k ns ∷ [] ≡ instr_written x ∷ []) (instr_line forms filled k ns)
unfolding instr_line
instr_written_lem forms filled k ns = Judges-demand _ _ _ _ (λ t. Judges-demand _ _ _ _ (λ u. Judges-demand _ _ _ _ (λ v. its_good (instr_back k ns t))))
