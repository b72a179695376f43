-- Numbers that pass the tests are lawful, lawful numbers pass them, and lawful figures are small. Assumes nothing.
use Prim.Native.Nat.{ℕ, ◌*◌, ◌-◌, ◌%◌, ◌^◌, ◌≤◌, ◌<◌}
use native.Mathlib.Nat.{le_of_dvd, dvd_of_mod-eq-zero}
use native.Mathlib.Omega.{arith}
use native.Mathlib.Decide.{dec_lt}
use mathlib.Core.Path.{◌≡◌, sym, ◌∙◌}
use mathlib.Core.Bool.{true, false, not, ◌||◌}
use borrow.Author.Tests.{ltb-false, eqb-true, eqb-false, not-false, le-ltb, eq-eqb, ne_eqb}
use lib.Dec.{eqb, ltb}
use Rattle.answer.specs.Order.{NoneGiven}
use Rattle.answer.proofs.Bools.{clash, or_false}
use Rattle.model.specs.Limits.{most_tasks, most_cores}
use Rattle.model.specs.Rules.{meets}
use Rattle.model.specs.declared.Figures.{Figures}
use Rattle.block.specs.Tests.{outside, wrong_common, wrong_limits, wrong_shape, allows, any_allowed, wrong_permitted, wrong_period, wrong_work, figure_rows}
use Rattle.block.proofs.Figures.{Small}
use Rattle.block.proofs.Masks.{allows_none, Allowed, any_found, any_none, any_is, any_are_not}
use Rattle.table.specs.Numbers.{TaskNumbers}
use Rattle.table.specs.Lawful.{LawfulHeader, LawfulTask, LawfulFigures}

-- ---- from tests to facts
pub inside : (low high x : ℕ) → outside low high x ≡ false → (low ≤ x) × (x ≤ high)
inside low high x e = let r = or_false (ltb x low) (ltb high x) e in (ltb-false x low r.0, ltb-false high x r.1)

positive : (x : ℕ) → eqb x 0 ≡ false → 1 ≤ x
positive x e = let ne = eqb-false x 0 e in omega (arith, ne)

pub is : (x y : ℕ) → not (eqb x y) ≡ false → x ≡ y
is x y e = eqb-true x y (not-false (eqb x y) e)

pub figures_lawful : (at H : ℕ) (f : Figures) → NoneGiven (figure_rows at H f) → LawfulFigures H f
figures_lawful at H f p =
    let C = f.work in
    let L = f.span in
    let T = f.period in
    let eleven = or_false (eqb T 0) (not (eqb (H % T) 0)) p.0 in
    let twelve = or_false (eqb C 0 || eqb L 0 || ltb C L) (ltb (64 * T) C) p.1.0 in
    let spans = or_false (eqb C 0 || eqb L 0) (ltb C L) twelve.0 in
    let zeros = or_false (eqb C 0) (eqb L 0) spans.0 in
    record {
      period_low = positive T eleven.0;
      divides = is (H % T) 0 eleven.1;
      work_low = positive C zeros.0;
      span_low = positive L zeros.1;
      span_high = ltb-false C L spans.1;
      work_high = ltb-false (64 * T) C twelve.1;
      meeting = not-false (meets C L T) p.1.1.0;
    }

pub header_lawful : (n m H : ℕ) → wrong_limits n m H ≡ false → LawfulHeader n m H
header_lawful n m H p =
    let five = or_false (outside 1 most_tasks n || outside 1 most_cores m) (wrong_common H) p in
    let counts = or_false (outside 1 most_tasks n) (outside 1 most_cores m) five.0 in
    let tasks = inside 1 most_tasks n counts.0 in
    let cores = inside 1 most_cores m counts.1 in
    let common = inside 1 100000 H five.1 in
    record { tasks_low = tasks.0; tasks_high = tasks.1; cores_low = cores.0; cores_high = cores.1; common_low = common.0; common_high = common.1 }

-- the permitted mode is below the count, since none at or beyond it is
below : (p modes : ℕ) → Allowed p 0 16 → ((j : ℕ) → modes ≤ j → allows p j ≡ false) → (j : ℕ) × (j < modes) × (allows p j ≡ true)
below p modes a none = go (dec_lt a.mode modes)
  where
    go : Dec (a.mode < modes) → (j : ℕ) × (j < modes) × (allows p j ≡ true)
    go (yes l) = (a.mode, l, a.is)
    go (no l) = clash (sym a.is ∙ none a.mode (omega arith))

-- none at or beyond the count below 16, and there is no mode 16
beyond : (p modes : ℕ) → p < 2 ^ 16 → any_allowed p modes (16 - modes) ≡ false → (j : ℕ) → modes ≤ j → allows p j ≡ false
beyond p modes bits e j low = go (dec_lt j 16)
  where
    go : Dec (j < 16) → allows p j ≡ false
    go (yes l) = any_none p modes (16 - modes) e j low (omega arith)
    go (no l) = sym (allows_none p j bits (omega arith))

pub task_lawful : (t : TaskNumbers) → t.permitted < 2 ^ 16 → wrong_shape t.elasticity t.modes ≡ false → wrong_permitted t.permitted t.modes ≡ false
    → LawfulTask t
task_lawful t bits shape mask =
    let p = t.permitted in
    let nine = or_false (outside 1 10 t.elasticity) (outside 1 16 t.modes) shape in
    let E = inside 1 10 t.elasticity nine.0 in
    let k = inside 1 16 t.modes nine.1 in
    let ten = or_false (not (any_allowed p 0 16)) (any_allowed p t.modes (16 - t.modes)) mask in
    let none = beyond p t.modes bits ten.1 in
    record {
      modes_low = k.0;
      modes_high = k.1;
      elasticity_low = E.0;
      elasticity_high = E.1;
      bits = bits;
      some = below p t.modes (any_found p 0 16 (not-false (any_allowed p 0 16) ten.0)) none;
      none_beyond = none;
    }

-- ---- and from facts to tests
within : (low high x : ℕ) → low ≤ x → x ≤ high → outside low high x ≡ false
within low high x p q = rw (le-ltb x low p, le-ltb high x q)

pub header_passes : {n m H : ℕ} → LawfulHeader n m H → wrong_limits n m H ≡ false
header_passes {n} {m} {H} l =
    rw (within 1 most_tasks n l.tasks_low l.tasks_high, within 1 most_cores m l.cores_low l.cores_high, within 1 100000 H l.common_low l.common_high)

pub common_passes : {n m H : ℕ} → LawfulHeader n m H → wrong_common H ≡ false
common_passes {n} {m} {H} l = within 1 100000 H l.common_low l.common_high

pub shape_passes : {t : TaskNumbers} → LawfulTask t → wrong_shape t.elasticity t.modes ≡ false
shape_passes {t} l =
    rw (within 1 10 t.elasticity l.elasticity_low l.elasticity_high, within 1 16 t.modes l.modes_low l.modes_high)

pub permitted_passes : {t : TaskNumbers} → LawfulTask t → wrong_permitted t.permitted t.modes ≡ false
permitted_passes {t} l =
    let s = l.some in
    rw (
      any_is t.permitted 0 16 s.0 (omega arith) (omega (arith, s.1, l.modes_high)) s.2,
      any_are_not t.permitted t.modes (16 - t.modes) (λ j low high. l.none_beyond j low),
    )

pub figures_pass : (at H : ℕ) (f : Figures) → LawfulFigures H f → NoneGiven (figure_rows at H f)
figures_pass at H f l =
    let eleven : wrong_period H f.period ≡ false = rw (ne_eqb f.period 0 (λ e. omega (arith, l.period_low)), eq-eqb (H % f.period) 0 l.divides) in
    let twelve : wrong_work f.work f.span f.period ≡ false =
    rw (
      ne_eqb f.work 0 (λ e. omega (arith, l.work_low)),
      ne_eqb f.span 0 (λ e. omega (arith, l.span_low)),
      le-ltb f.work f.span l.span_high,
      le-ltb (64 * f.period) f.work l.work_high,
    ) in
    (eleven, (twelve, (rw l.meeting, tt)))

-- ---- lawful figures fit 32 bits: no period is above the common one
pub period_short : (H : ℕ) (f : Figures) → 1 ≤ H → LawfulFigures H f → f.period ≤ H
period_short H f low l = le_of_dvd low (dvd_of_mod-eq-zero f.period l.divides)

pub figures_small : (H : ℕ) (f : Figures) → 1 ≤ H → H ≤ 100000 → LawfulFigures H f → Small f
figures_small H f low high l =
    let T = period_short H f low l in
    record { work = omega (arith, T, l.work_high); span = omega (arith, T, l.work_high, l.span_high); period = omega (arith, T) }
