-- A line's numbers, one after another: what has been put in words so far, and what is still to come. Assumes nothing.
use Rattle.std.specs.Prelude.{ℕ, suc, ◌+◌, ◌-◌, ◌<◌, ◌≤◌, Bool, true, false, ◌&&◌, List, [], ◌∷◌, ◌++◌, ◌≡◌, refl, eqb, length, take, drop, set, Option, None, Some, MatchOption}
use Rattle.std.specs.Borrow.{Bor}
use Rattle.std.specs.Cmp.Lexicographic.{pointwise}
use Rattle.std.proofs.Common.{append_assoc, append-nil, sym, ◌∙◌, ap, add-one, arith, take_all, drop-drop}
use Rattle.std.proofs.lemmas.List.{take_more_set}
use Rattle.std.proofs.Math.Seq.{take-suc-set, drop-set-lt}
use Rattle.words.specs.TestLaws.{cond-true, cond-false}
use Rattle.lines.specs.Read.{Got, begins, chain, prepend, read_number, read_field, read_fields}
use Rattle.lines.specs.Found.{fields_got}
use Rattle.lines.specs.FieldLaws.{joined}
use Rattle.lines.proofs.FoundLaws.{begins-within}

-- ---- a byte in front

-- A text begins with a byte as std tests it.
begins-pointwise : (byte : ℕ) (bs : List ℕ) → pointwise eqb (take 1 bs) (byte ∷ []) ≡ begins byte bs
unfolding begins
begins-pointwise byte [] = refl
begins-pointwise byte (b ∷ bs) = and-true (eqb b byte)
  where
    and-true : (t : Bool) → (t && true) ≡ t
    and-true true = refl
    and-true false = refl

-- A field behind its space, and none.
pub field-behind : (bs : List ℕ) {rest : List ℕ} → pointwise eqb (take 1 bs) (32 ∷ []) ≡ true → rest ≡ drop 1 bs → read_number rest ≡ read_field bs
unfolding read_field
field-behind bs there is = rw (← begins-pointwise 32 bs, there, is)

pub field-none : (bs : List ℕ) → pointwise eqb (take 1 bs) (32 ∷ []) ≡ false → None ≡ read_field bs
unfolding read_field
field-none bs missing = rw (← begins-pointwise 32 bs, missing)

-- ---- numbers and a line feed

joined-more : (vs : List ℕ) (x : ℕ) (o : Option (Got (List ℕ))) → joined vs (prepend x o) ≡ joined (vs ++ (x ∷ [])) o
unfolding joined prepend
joined-more vs x None = refl
joined-more vs x (Some g) = ap (λ ws. Some (record { value = ws; rest = g.rest })) (sym (append_assoc vs (x ∷ []) g.value))

joined-nothing : (o : Option (Got (List ℕ))) → joined [] o ≡ o
unfolding joined
joined-nothing None = refl
joined-nothing (Some g) = refl

-- Nothing has been put in words.
pub fields-start : (n : ℕ) (bs : List ℕ) → joined [] (read_fields (n - 0) bs) ≡ read_fields n bs
fields-start n bs =
    let all : n - 0 ≡ n = omega arith in
    ap (λ k. joined [] (read_fields k bs)) all ∙ joined-nothing (read_fields n bs)

-- i of n numbers have been put in words.
module _ (n i : ℕ) (words bs : List ℕ) {whole : Option (Got (List ℕ))} (so_far : joined (take i words) (read_fields (n - i) bs) ≡ whole) where
  -- The next one is there,
  pub fields-more : i < n → i < length words → {x : ℕ} {rest : List ℕ} → Some (record { value = x; rest = rest }) ≡ read_field bs
      → joined (take (i + 1) (set words i x)) (read_fields (n - (i + 1)) rest) ≡ whole
  unfolding read_fields chain
  fields-more l fits {x} {rest} is =
      let many : n - i ≡ suc (n - (i + 1)) = omega arith in
      rw (take_more_set words i x fits, ← joined-more (take i words) x (read_fields (n - (i + 1)) rest)) (rw (many, ← is) at so_far)

  -- or not.
  pub fields-fail : i < n → None ≡ read_field bs → None ≡ whole
  unfolding read_fields chain joined
  fields-fail l is =
      let many : n - i ≡ suc (n - (i + 1)) = omega arith in
      rw (many, ← is) at so_far

  -- All have been: the line feed is there or not.
  pub fields-end : n ≤ i → length words ≤ i → (r : Option (Bor (List ℕ)))
      → MatchOption r (pointwise eqb (take 1 bs) (10 ∷ []) ≡ false) (λ x. (pointwise eqb (take 1 bs) (10 ∷ []) ≡ true) × (x.now ≡ drop 1 bs) × (length x.now + 1 ≡ length bs))
      → fields_got words r ≡ whole
  unfolding read_fields joined
  fields-end l all None missing =
      let none_left : n - i ≡ 0 = omega arith in
      rw (none_left, ← begins-pointwise 10 bs, missing) at so_far
  fields-end l all (Some x) found =
      let none_left : n - i ≡ 0 = omega arith in
      rw (found.1) (rw (none_left, ← begins-pointwise 10 bs, found.0, append-nil, take_all i words all) at so_far)

-- ---- the same at places of a text

module _ (text : List ℕ) (from count : ℕ) (words : List ℕ) where
  -- i numbers have been put in words, and the text goes on at a place.
  pub record Filling (i : ℕ) (left : List ℕ) (at : ℕ) : Type 0 where
    pub so_far : joined (take i left) (read_fields (count - i) (drop at text)) ≡ read_fields count (drop from text)
    pub kept : drop count left ≡ drop count words

  pub filling-starts : Filling 0 words from
  filling-starts =
      let e : count - 0 ≡ count = omega arith in
      record { so_far = ap (λ k. joined [] (read_fields k (drop from text))) e ∙ joined-nothing (read_fields count (drop from text)); kept = refl }

  module _ {i : ℕ} {left : List ℕ} {at : ℕ} (so : Filling i left at) where
    -- The next number.
    next_field : i < count → read_fields (count - i) (drop at text) ≡ chain (read_field (drop at text)) (λ x rest. prepend x (read_fields (count - (i + 1)) rest))
    unfolding read_fields
    next_field l =
        let e : count - i ≡ suc (count - (i + 1)) = omega arith in
        ap (λ k. read_fields k (drop at text)) e

    pub filling-on : i < count → i < length left → {value next : ℕ} → Some (record { value = value; rest = drop next text }) ≡ read_field (drop at text) → Filling (i + 1) (set left i value) next
    unfolding chain
    filling-on l fits {value} {next} is =
        let o = read_fields (count - (i + 1)) (drop next text) in
        let front : take (i + 1) (set left i value) ≡ take i left ++ (value ∷ []) = ap (λ k. take k (set left i value)) (add-one i) ∙ take-suc-set left i value fits in
        record {
          so_far =
              ap (λ vs. joined vs o) front
              ∙ (sym (joined-more (take i left) value o)
              ∙ (ap (joined (take i left)) (sym (next_field l ∙ ap (λ f. chain f (λ x rest. prepend x (read_fields (count - (i + 1)) rest))) (sym is)))
              ∙ so.so_far));
          kept = drop-set-lt count left i value l ∙ so.kept;
        }

    -- There is none.
    pub filling-fails : i < count → None ≡ read_field (drop at text) → (None ≡ read_fields count (drop from text)) × (drop count left ≡ drop count words)
    unfolding joined chain
    filling-fails l is = (
      ap (joined (take i left)) (sym (next_field l ∙ ap (λ f. chain f (λ x rest. prepend x (read_fields (count - (i + 1)) rest))) (sym is))) ∙ so.so_far,
      so.kept,
    )

    -- All have been put in words: the line feed is there or not.
    all_there : i ≡ count → read_fields (count - i) (drop at text) ≡ read_fields 0 (drop at text)
    all_there e =
        let none_left : count - i ≡ 0 = omega arith in
        ap (λ k. read_fields k (drop at text)) none_left

    pub filling-ends : i ≡ count → {r : Bool} → r ≡ begins 10 (drop at text) → r ≡ true
        → (Some (record { value = take count left; rest = drop (at + 1) text }) ≡ read_fields count (drop from text)) × (at + 1 ≤ length text) × (drop count left ≡ drop count words)
    unfolding joined read_fields
    filling-ends e {r} is t =
        let ended : read_fields 0 (drop at text) ≡ Some (record { value = []; rest = drop (at + 1) text })
        = cond-true (begins 10 (drop at text)) _ _ (sym is ∙ t) ∙ ap (λ bs. Some (record { value = []; rest = bs })) (drop-drop 1 at text) in (
          ap (λ k. Some (record { value = take k left; rest = drop (at + 1) text })) (sym e)
              ∙ (ap (λ vs. Some (record { value = vs; rest = drop (at + 1) text })) (sym (append-nil (take i left)))
              ∙ (ap (joined (take i left)) (sym (all_there e ∙ ended))
              ∙ so.so_far)),
          omega (arith, begins-within text at 10 is t),
          so.kept,
        )

    pub filling-unended : i ≡ count → {r : Bool} → r ≡ begins 10 (drop at text) → r ≡ false → (None ≡ read_fields count (drop from text)) × (drop count left ≡ drop count words)
    unfolding joined read_fields
    filling-unended e is f =
        (ap (joined (take i left)) (sym (all_there e ∙ cond-false (begins 10 (drop at text)) _ _ (sym is ∙ f))) ∙ so.so_far, so.kept)
