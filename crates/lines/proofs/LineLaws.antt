-- From a line's numbers in words to the line. Assumes nothing.
use Rattle.std.specs.Prelude.{ℕ, zero, suc, ◌+◌, ◌-◌, ◌≤◌, ◌<◌, true, false, List, [], ◌∷◌, ◌++◌, ◌≡◌, refl, eqb, length, get_or, take, drop, slice_range, Option, None, Some}
use Rattle.std.proofs.Common.{append_assoc, length-append, take-append-drop, drop_at, sym, ◌∙◌, ap, arith, eqb-true, eq-eqb, ne_eqb, take_all, length-drop, length-take-le, drop_of_length-le}
use Rattle.std.specs.Borrow.{Bor}
use Rattle.words.specs.Tests.{zeros}
use Rattle.words.specs.TestLaws.{cond-elim, cond-true, cond-false, and_left, and_right}
use Rattle.rules.specs.Step.{Step}
use Rattle.lines.specs.Read.{Got, chain, read_number, read_fields, kind_of, count_of, step_with, read_arguments, read_step, read_sizes_behind, read_sizes, read_line}
use Rattle.lines.specs.Kinds.{number_of}
use Rattle.lines.specs.Found.{got, Same, placed, fields_got, words_of, words_read, line_words, moved_behind, NextPromise}
use Rattle.lines.specs.declared.kind.Kind.{Kind}
use Rattle.lines.specs.declared.kind.Kind.TheVariants.{Open, Close, Read, Write, Exchange}
use Rattle.lines.specs.declared.Reader.{Reader}
use Rattle.std.proofs.lemmas.Option.{same_Some}
use Rattle.lines.proofs.GotLaws.{none-some}
use Rattle.lines.proofs.ReadLaws.{read-step, read-sizes}

-- ---- words of which the last are 0

zeros-get_or : (ws : List ℕ) (j : ℕ) → zeros ws ≡ true → get_or ws j 0 ≡ 0
unfolding zeros
zeros-get_or [] j h = refl
zeros-get_or (w ∷ ws) zero h = eqb-true w 0 (and_left (eqb w 0) (zeros ws) h)
zeros-get_or (w ∷ ws) (suc j) h = zeros-get_or ws j (and_right (eqb w 0) (zeros ws) h)

-- What is not among the first is 0 either way.
get_or_front : (k : ℕ) (ws : List ℕ) (j : ℕ) → zeros (drop k ws) ≡ true → get_or (take k ws) j 0 ≡ get_or ws j 0
get_or_front zero ws j h = sym (zeros-get_or ws j h)
get_or_front (suc k) [] j h = refl
get_or_front (suc k) (w ∷ ws) zero h = refl
get_or_front (suc k) (w ∷ ws) (suc j) h = get_or_front k ws j h

-- ---- from the numbers to the line

module _ (bs : List ℕ) (count : ℕ) (left : List ℕ) {r : Option (Bor (List ℕ))} (found : fields_got left r ≡ read_fields count bs) where
  pub fields-found : {rest : Bor (List ℕ)} → r ≡ Some rest → Some (record { value = left; rest = rest.now }) ≡ read_fields count bs
  fields-found e = ap (fields_got left) (sym e) ∙ found

  pub fields-lost : r ≡ None → None ≡ read_fields count bs
  fields-lost e = ap (fields_got left) (sym e) ∙ found

  -- The step that a line's numbers make, if they make one; f is what makes it.
  line-found : (f : List ℕ → Step) {rest : Bor (List ℕ)} → r ≡ Some rest
      → Some (record { value = f left; rest = rest.now }) ≡ chain (read_fields count bs) (λ xs rest. Some (record { value = f xs; rest = rest }))
  unfolding chain
  line-found f e = ap (λ o. chain o (λ xs rest. Some (record { value = f xs; rest = rest }))) (fields-found e)

  line-lost : (f : List ℕ → Step) → r ≡ None → None ≡ chain (read_fields count bs) (λ xs rest. Some (record { value = f xs; rest = rest }))
  unfolding chain
  line-lost f e = ap (λ o. chain o (λ xs rest. Some (record { value = f xs; rest = rest }))) (fields-lost e)

  -- A step's arguments.
  pub arguments-found : (kind : ℕ) → count ≡ count_of kind → {rest : Bor (List ℕ)} → r ≡ Some rest → Some (record { value = step_with kind left; rest = rest.now }) ≡ read_arguments kind bs
  unfolding read_arguments
  arguments-found kind k e = line-found (step_with kind) e ∙ ap (λ m. chain (read_fields m bs) (λ xs rest. Some (record { value = step_with kind xs; rest = rest }))) k

  pub arguments-lost : (kind : ℕ) → count ≡ count_of kind → r ≡ None → None ≡ read_arguments kind bs
  unfolding read_arguments
  arguments-lost kind k e = line-lost (step_with kind) e ∙ ap (λ m. chain (read_fields m bs) (λ xs rest. Some (record { value = step_with kind xs; rest = rest }))) k

-- The sizes behind N: two numbers.
module _ (bs : List ℕ) (n : ℕ) (left : List ℕ) {r : Option (Bor (List ℕ))} (found : fields_got left r ≡ read_fields 2 bs) where
  pub sizes-lost : r ≡ None → None ≡ read_sizes_behind n bs
  unfolding read_sizes_behind
  sizes-lost e = line-lost bs 2 left found (λ xs. step_with 0 (n ∷ xs)) e

-- ---- the sizes

module _ (bs : List ℕ) where
  pub sizes-none : None ≡ read_number bs → None ≡ read_sizes bs
  unfolding read_sizes chain
  sizes-none e = ap (λ o. chain o read_sizes_behind) e

  module _ {n : ℕ} {rest : List ℕ} (first : Some (record { value = n; rest = rest }) ≡ read_number bs) where
    pub sizes-behind : read_sizes_behind n rest ≡ read_sizes bs
    unfolding read_sizes chain
    sizes-behind = ap (λ o. chain o read_sizes_behind) first

    pub sizes-unended : None ≡ read_fields 2 rest → None ≡ line_words (read_sizes bs)
    unfolding read_sizes read_sizes_behind chain
    sizes-unended e = rw (← first, ← e)

    pub sizes-found : (ws : List ℕ) {behind : List ℕ} → length ws ≡ 2 → Some (record { value = ws; rest = behind }) ≡ read_fields 2 rest
        → Some (record { value = 0 ∷ n ∷ (ws ++ (0 ∷ [])); rest = behind }) ≡ line_words (read_sizes bs)
    unfolding read_sizes read_sizes_behind chain step_with
    sizes-found [] two e = absurd (omega arith)
    sizes-found (l ∷ []) two e = absurd (omega arith)
    sizes-found (l ∷ p ∷ w ∷ ws) two e = absurd (omega arith)
    sizes-found (l ∷ p ∷ []) two e = rw (← first, ← e)

-- ---- a step

-- Four words that no number has been put in.
abbrev pub blank : List ℕ
blank = 0 ∷ 0 ∷ 0 ∷ 0 ∷ []

-- At most four words, and 0 for those that are not there.
padded : (ws : List ℕ) → length ws ≤ 4 → ws ++ drop (length ws) blank ≡ get_or ws 0 0 ∷ get_or ws 1 0 ∷ get_or ws 2 0 ∷ get_or ws 3 0 ∷ []
padded [] h = refl
padded (a ∷ []) h = refl
padded (a ∷ b ∷ []) h = refl
padded (a ∷ b ∷ c ∷ []) h = refl
padded (a ∷ b ∷ c ∷ d ∷ []) h = refl
padded (a ∷ b ∷ c ∷ d ∷ e ∷ ws) h = absurd (omega arith)

a_kind : (kind : Kind) → eqb (number_of kind) 0 ≡ false
a_kind Open = refl
a_kind Close = refl
a_kind Read = refl
a_kind Write = refl
a_kind Exchange = refl

module _ (bs : List ℕ) where
  pub step-none : length bs ≡ 0 → None ≡ line_words (read_step bs)
  unfolding read_step
  step-none h = go bs h
    where
      go : (bs : List ℕ) → length bs ≡ 0 → None ≡ line_words (read_step bs)
      go [] h = refl
      go (b ∷ bs) h = absurd (omega arith)

  module _ {letter : ℕ} {rest : List ℕ} (is : bs ≡ letter ∷ rest) where
    pub step-unknown : 0 ≡ kind_of letter → None ≡ line_words (read_step bs)
    unfolding read_step
    step-unknown e = rw (is, ← e)

    module _ (kind : Kind) (e : number_of kind ≡ kind_of letter) {count : ℕ} (many : (count ≡ count_of (number_of kind)) × (count ≤ 4)) where
      room : length (take (1 + count - 1) blank) ≡ count_of (number_of kind)
      room =
          let all : 1 + count - 1 ≡ count = omega arith in
          ap (λ n. length (take n blank)) all ∙ (length-take-le count blank many.1 ∙ many.0)

      pub step-unended : None ≡ read_fields (length (take (1 + count - 1) blank)) rest → None ≡ line_words (read_step bs)
      unfolding read_step read_arguments chain
      step-unended none = rw (is, ← e, a_kind kind, ← room, ← none)

      pub step-found : (ws : List ℕ) {behind : List ℕ} → length ws ≡ length (take (1 + count - 1) blank)
          → Some (record { value = ws; rest = behind }) ≡ read_fields (length (take (1 + count - 1) blank)) rest
          → Some (record { value = number_of kind ∷ (ws ++ drop (1 + count - 1) blank); rest = behind }) ≡ line_words (read_step bs)
      unfolding read_step read_arguments chain step_with
      step-found ws long found =
          let all : 1 + count - 1 ≡ count = omega arith in
          let some : length ws ≡ count = omega (arith, room, many.0) in
          rw (is, ← e, a_kind kind, ← room, ← found, all, ← some, padded ws (omega (arith, many.1)))

-- ---- a line

module _ (text : List ℕ) (at : ℕ) where
  pub line_first : at ≡ 0 → read_sizes text ≡ read_line text at
  unfolding read_line
  line_first e = sym (cond-true (eqb at 0) _ _ (eq-eqb at 0 e))

  pub line-later : (at ≡ 0 → ⊥) → read_line text at ≡ read_step (drop at text)
  unfolding read_line
  line-later ne = cond-false (eqb at 0) _ _ (ne_eqb at 0 ne)

  pub line-none : (at ≡ 0 → ⊥) → length text < at → None ≡ line_words (read_line text at)
  line-none ne past = rw (line-later ne, drop_of_length-le text {i = at} (omega arith)) (step-none [] refl)

  pub line-some : (at ≡ 0 → ⊥) → {part : List ℕ} → part ≡ slice_range text at (length text) → line_words (read_step part) ≡ line_words (read_line text at)
  line-some ne is = ap (λ bs. line_words (read_step bs)) (is ∙ take_all (length text - at) (drop at text) (omega (arith, length-drop at text))) ∙ ap line_words (sym (line-later ne))

-- What is read of a line is the text from a place on, up to some rest.
record Ahead (text : List ℕ) (rest : List ℕ) : Type 0 where
  place : ℕ
  line : List ℕ
  is : drop place text ≡ line ++ rest

ahead : (text : List ℕ) (at : ℕ) (g : Got Step) → read_line text at ≡ Some g → Ahead text g.rest
unfolding read_line
ahead text at g =
    cond-elim (λ (o : Option (Got Step)). o ≡ Some g → Ahead text g.rest) (eqb at 0)
    (λ start h. record { place = 0; line = _; is = read-sizes text g h })
    (λ later h. let said = read-step (drop at text) g h in record { place = at; line = said.line; is = said.is })

module _ (text : List ℕ) {rest : List ℕ} (so : Ahead text rest) where
  parts : text ≡ (take so.place text ++ so.line) ++ rest
  parts = sym (take-append-drop so.place text) ∙ (ap (λ bs. take so.place text ++ bs) so.is ∙ sym (append_assoc (take so.place text) so.line rest))

  many : length text ≡ length (take so.place text ++ so.line) + length rest
  many = ap length parts ∙ length-append (take so.place text ++ so.line) rest

  ahead-behind : drop (length text - length rest) text ≡ rest
  ahead-behind =
      let front : length (take so.place text ++ so.line) ≡ length text - length rest = omega (arith, many) in
      ap (drop (length text - length rest)) parts ∙ drop_at (take so.place text ++ so.line) rest (length text - length rest) front

-- Behind a line the text goes on at the place that is as far from its end as there is text left.
pub line-behind : (text : List ℕ) (at : ℕ) (g : Got Step) → read_line text at ≡ Some g → drop (length text - length g.rest) text ≡ g.rest
line-behind text at g e = ahead-behind text (ahead text at g e)

pub line-shorter : (text : List ℕ) (at : ℕ) {ws rest : List ℕ} → Some (record { value = ws; rest = rest }) ≡ line_words (read_line text at) → length rest ≤ length text
line-shorter text at {ws} {rest} = go (read_line text at) refl
  where
    go : (o : Option (Got Step)) → read_line text at ≡ o → Some (record { value = ws; rest = rest }) ≡ line_words o → length rest ≤ length text
    go None is e = none-some (sym e)
    go (Some g) is e = omega (arith, many text (ahead text at g is), ap length (ap (λ r. r.rest) (same_Some _ _ e)))

-- The promise of what reads a line settles it, the place at which the text goes on and the text there, but not where in memory a part of the
-- text lies: so it is the words and the place that are equal, and not the references.
pub line-settled : (text : List ℕ) (found : Option (Got Step)) (r s : Option (List ℕ × Bor (List ℕ))) → got r ≡ line_words found → got s ≡ line_words found
    → (placed text r ≡ placed text s) × Same r s
line-settled text found r s p q = go r s (p ∙ sym q)
  where
    go : (r s : Option (List ℕ × Bor (List ℕ))) → got r ≡ got s → (placed text r ≡ placed text s) × Same r s
    go None None e = (refl, tt)
    go None (Some s) e = none-some e
    go (Some r) None e = none-some (sym e)
    go (Some r) (Some s) e =
        let g = same_Some _ _ e in
        (ap (λ x. Some (x.value, length text - length x.rest)) g, (ap (λ x. x.value) g, ap (λ x. x.rest) g))

-- and that of a reader's step the line and the reader.
pub next-settled : (before : Reader) {l l' : Option (List ℕ)} {after after' : Reader} → NextPromise before l after → NextPromise before l' after' → (l ≡ l') × (after ≡ after')
next-settled before p q = (p.line_is ∙ sym q.line_is, p.moved_is ∙ sym q.moved_is)

-- What it says of a good line, and of a bad one.
pub record Went (before : Reader) (ws : List ℕ) (after : Reader) : Type 0 where
  pub line : Got Step
  pub is : read_line before.text.now before.at ≡ Some line
  pub words_are : ws ≡ words_of line.value
  pub text_is : after.text ≡ before.text
  pub rest_is : drop after.at before.text.now ≡ line.rest

pub next-good : (before : Reader) {l : Option (List ℕ)} {ws : List ℕ} (after : Reader) → NextPromise before l after → l ≡ Some ws → Went before ws after
next-good before {ws = ws} after p some = go (read_line before.text.now before.at) refl (sym some ∙ p.line_is) p.moved_is
  where
    go : (o : Option (Got Step)) → read_line before.text.now before.at ≡ o → Some ws ≡ words_read o → after ≡ moved_behind o before → Went before ws after
    go None is l m = none-some (sym l)
    go (Some g) is l m =
        record {
          line = g;
          is = is;
          words_are = same_Some _ _ l;
          text_is = ap (λ r. r.text) m;
          rest_is = ap (λ r. drop r.at before.text.now) m ∙ line-behind before.text.now before.at g is;
        }

pub next-bad : (before : Reader) {l : Option (List ℕ)} (after : Reader) → NextPromise before l after → l ≡ None → read_line before.text.now before.at ≡ None
next-bad before after p none = go (read_line before.text.now before.at) (sym none ∙ p.line_is)
  where
    go : (o : Option (Got Step)) → None ≡ words_read o → o ≡ None
    go None l = refl
    go (Some g) l = none-some l
