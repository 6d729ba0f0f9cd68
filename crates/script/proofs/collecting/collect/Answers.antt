-- `script::collecting::collect` meets its contract.
use Rattle.std.proofs.Common.{◌≡◌, ◌*◌, ◌+◌, ℕ, List, [], ◌∷◌, Option, drop, get_or, length, refl, sym, ◌∙◌, ap, ap₂, subst, arith, rules}
use Rattle.std.specs.Borrow.{Bor}
use Rattle.words.specs.Lists.{splice}
use Rattle.tables.specs.Shape.{shape}
use Rattle.rules.specs.Step.{Step}
use Rattle.lines.specs.Read.{Got, read_line}
use Rattle.lines.specs.Found.{NewPromise}
use Rattle.lines.specs.declared.Reader.{Reader}
use Rattle.lines.proofs.LineLaws.{next-good, next-bad}
use Rattle.script.proofs.ListedLaws.{Listing, first-bad, first-refused, first_good, listing-ends, listing-longer, listing-bad, listing-on, sizes-are, listed-fault}
use Rattle.script.proofs.collecting.collect.Goals as goal

-- What is read by a new reader, and by one of this text.
at_start : (text : Bor (List ℕ)) (r : Reader) {o : Option (Got Step)} → NewPromise text 0 r → read_line r.text.now r.at ≡ o → read_line text.now 0 ≡ o
at_start text r new read = sym (ap₂ (λ (t : Bor (List ℕ)) (k : ℕ). read_line t.now k) new.text_is new.at_is) ∙ read

in_text : (text : List ℕ) (r : Reader) {o : Option (Got Step)} → r.text.now ≡ text → read_line r.text.now r.at ≡ o → read_line text r.at ≡ o
in_text text r same read = sym (ap (λ t. read_line t r.at) same) ∙ read

pub returns-in_err-n : goal.returns-in_err-n
returns-in_err-n c =
    let fails = c.in_err-n.ensures in
    listed-fault c.args.text.now c.args.steps.now c.next.result c.in_err-n.field-0.0 _ c.from_residual.result fails.ok_part fails.value c.from_residual.ensures.1
    (first-bad _ (at_start c.args.text c.new-reader.result c.new-reader.ensures (next-bad c.new-reader.result c.next.new.self c.next.ensures fails.ok_part)))

pub returns-then-not-is_admissible : goal.returns-then-not-is_admissible
returns-then-not-is_admissible c =
    let went = next-good c.new-reader.result c.next.new.self c.next.ensures c.in_ok-n.ensures.ok_part in
    record {
      found_is = first-refused _ (at_start c.args.text c.new-reader.result c.new-reader.ensures went.is) (sizes-are went.words_are c.new-sizes.ensures) (sym c.if-not-is_admissible.ensures);
      fits = tt;
    }

pub loop-reader-init : goal.loop-reader-init
loop-reader-init c =
    let went = next-good c.new-reader.result c.next.new.self c.next.ensures c.in_ok-n.ensures.ok_part in
    let start = c.new-reader.ensures in
    let same : c.new-reader.result.text.now ≡ c.args.text.now = ap (λ t. t.now) start.text_is in
    record {
      same_text = ap (λ t. t.now) went.text_is ∙ same;
      few = search rules;
      long = c.requires;
      so =
          first_good _ (at_start c.args.text c.new-reader.result start went.is) (sizes-are went.words_are c.new-sizes.ensures) (sym c.if-not-is_admissible.ensures)
          (ap (drop c.next.new.self.at) (sym same) ∙ went.rest_is);
    }

pub returns-then-count-eq-MOST_STEPS : goal.returns-then-count-eq-MOST_STEPS
returns-then-count-eq-MOST_STEPS c =
    let inv = c.loop-reader.invariant in
    record { found_is = listing-longer _ _ inv.so c.loop-reader-test.true c.if-count-eq-MOST_STEPS.true; fits = tt }

pub returns-in_default : goal.returns-in_default
returns-in_default c =
    let inv = c.loop-reader.invariant in
    record {
      found_is =
          listing-bad _ _ inv.so c.loop-reader-test.true (omega (arith, inv.few, c.if-count-eq-MOST_STEPS.false))
          (in_text c.args.text.now c.loop-reader.reader inv.same_text (next-bad c.loop-reader.reader c.next-in-loop-reader.new.self c.in_default.ensures refl));
      fits = tt;
    }

-- A step's five words, one by one.
five : (ws : List ℕ) {k p q r s : ℕ} → length ws ≡ 5 → get_or ws 0 0 ≡ k → get_or ws 1 0 ≡ p → get_or ws 2 0 ≡ q → get_or ws 3 0 ≡ r → get_or ws 4 0 ≡ s → ws ≡ k ∷ p ∷ q ∷ r ∷ s ∷ []
five [] long = absurd (omega arith)
five (a ∷ []) long = absurd (omega arith)
five (a ∷ b ∷ []) long = absurd (omega arith)
five (a ∷ b ∷ c ∷ []) long = absurd (omega arith)
five (a ∷ b ∷ c ∷ d ∷ []) long = absurd (omega arith)
five (a ∷ b ∷ c ∷ d ∷ e ∷ []) long = λ h i j k l. λ n. h n ∷ i n ∷ j n ∷ k n ∷ l n ∷ []
five (a ∷ b ∷ c ∷ d ∷ e ∷ f ∷ ws) long = absurd (omega arith)

pub loop-reader-preserved : goal.loop-reader-preserved
loop-reader-preserved c =
    let inv = c.loop-reader.invariant in
    let went = next-good c.loop-reader.reader c.next-in-loop-reader.new.self c.in-Some.ensures refl in
    let next = c.next-in-loop-reader.new.self in
    let on =
    listing-on _ _ inv.so c.loop-reader-test.true (omega (arith, inv.few, c.if-count-eq-MOST_STEPS.false)) (in_text c.args.text.now c.loop-reader.reader inv.same_text went.is)
    (ap (drop next.at) (sym inv.same_text) ∙ went.rest_is) inv.long in
    let words = went.words_are in
    record {
      same_text = ap (λ t. t.now) went.text_is ∙ inv.same_text;
      few = omega (arith, inv.few, c.if-count-eq-MOST_STEPS.false);
      long = omega (arith, inv.long);
      so =
          subst (λ ws. Listing c.args.text.now (shape c.new-sizes.result) (c.loop-reader.count + 1) ws next.at)
          (sym (c.put.ensures ∙ ap (splice (c.loop-reader.count * 5) 5 c.loop-reader.steps)
          (five _ (search rules) (ap (λ ws. get_or ws 0 0) words) (ap (λ ws. get_or ws 1 0) words) (ap (λ ws. get_or ws 2 0) words) (ap (λ ws. get_or ws 3 0) words) (ap (λ ws. get_or ws 4 0) words))))
          on;
    }

pub returns : goal.returns
returns c =
    let inv = c.loop-reader.invariant in
    record { found_is = listing-ends _ _ inv.so c.loop-reader-test.false; fits = (sym c.if-not-is_admissible.ensures, inv.few) }
