-- Reading a line finds exactly the lines' spellings. Assumes nothing.
use Rattle.std.specs.Prelude.{ℕ, zero, suc, ◌<◌, ◌≤◌, List, [], ◌∷◌, ◌++◌, true, cond, ◌≡◌, refl, eqb, length, drop, Option, None, Some}
use Rattle.std.proofs.Common.{append_assoc, sym, ◌∙◌, ap, subst, arith, eqb-true, length-append}
use Rattle.words.specs.TestLaws.{cond-elim}
use Rattle.tables.specs.Size.{Size}
use Rattle.rules.specs.Step.{Step}
use Rattle.lines.specs.Decimal.{decimal}
use Rattle.lines.specs.Line.{fields, numbers, size_line, Fits, StepLine, opens, closes, reads, writes, exchanges}
use Rattle.lines.specs.Read.{Got, chain, begins, is_digit, read_number, read_field, prepend, read_fields, kind_of, count_of, step_with, read_arguments, read_step, read_sizes_behind, read_sizes}
use Rattle.lines.proofs.GotLaws.{some_is, none-some, chained, begins-is}
use Rattle.lines.specs.DigitLaws.{NoDigit, other}
use Rattle.lines.proofs.DigitLaws.{number_read, read-number}
use Rattle.lines.specs.ReadLaws.{AllFit, FieldSaid, FieldsSaid, StepSaid, fit_more, fit_none}

-- ---- fields

-- A space or a line feed is no digit.
fields-no-digit : (xs rest : List ℕ) → NoDigit (fields xs ++ rest)
unfolding fields is_digit
fields-no-digit [] rest = other refl
fields-no-digit (x ∷ xs) rest = other refl

-- The spelling of so many numbers is read.
pub fields_read : {k : ℕ} {xs : List ℕ} → AllFit k xs → (rest : List ℕ) → read_fields k (fields xs ++ rest) ≡ Some (record { value = xs; rest = rest })
unfolding fields read_fields begins read_field chain prepend
fields_read fit_none rest = refl
fields_read (fit_more {k = k} {x = x} {xs = xs} h hs) rest =
    ap (λ t. chain (read_number t) (λ y behind. prepend y (read_fields k behind))) (append_assoc (decimal x) (fields xs) rest)
    ∙ (ap (λ o. chain o (λ y behind. prepend y (read_fields k behind))) (number_read x h (fields-no-digit xs rest))
    ∙ ap (prepend x) (fields_read hs rest))

read-field : (bs : List ℕ) (g : Got ℕ) → read_field bs ≡ Some g → FieldSaid bs g
unfolding read_field
read-field bs g =
    cond-elim (λ (o : Option (Got ℕ)). o ≡ Some g → FieldSaid bs g) (begins 32 bs)
    (λ space h.
    let so = read-number (drop 1 bs) g h in
    (begins-is 32 bs space ∙ ap (λ t. 32 ∷ t) so.0, so.1))
    (λ nothing. none-some)

-- A field more, before the others.
prepend-chain : (x : ℕ) (o : Option (Got (List ℕ))) → prepend x o ≡ chain o (λ xs rest. Some (record { value = x ∷ xs; rest = rest }))
unfolding prepend chain
prepend-chain x None = refl
prepend-chain x (Some g) = refl

fields-said : {k : ℕ} {bs : List ℕ} (g : Got ℕ) (os : Got (List ℕ)) → FieldSaid bs g → FieldsSaid k g.rest os
    → FieldsSaid (suc k) bs (record { value = g.value ∷ os.value; rest = os.rest })
unfolding fields
fields-said g os one others = (
  one.0 ∙ ap (λ t. 32 ∷ t) (ap (λ t. decimal g.value ++ t) others.0 ∙ sym (append_assoc (decimal g.value) (fields os.value) os.rest)),
  fit_more one.1 others.1,
)

-- What is read as so many numbers is their spelling.
pub read-fields : (k : ℕ) (bs : List ℕ) (g : Got (List ℕ)) → read_fields k bs ≡ Some g → (bs ≡ fields g.value ++ g.rest) × AllFit k g.value
unfolding read_fields fields
read-fields zero bs g =
    cond-elim (λ (o : Option (Got (List ℕ))). o ≡ Some g → FieldsSaid zero bs g) (begins 10 bs)
    (λ feed. some_is (FieldsSaid zero bs) (begins-is 10 bs feed, fit_none)) (λ nothing. none-some)
read-fields (suc k) bs g = λ h.
    let c = chained (read_field bs) _ g h in
    let behind = read_fields k c.found.rest in
    let d = chained behind _ g (sym (prepend-chain c.found.value behind) ∙ c.next_is) in
    some_is (FieldsSaid (suc k) bs)
    (fields-said c.found d.found (read-field bs c.found c.first_is) (read-fields k c.found.rest d.found d.first_is)) d.next_is

-- ---- a step's line

-- As many arguments as a kind has make a step of it.
opens-fit : (xs : List ℕ) → AllFit 2 xs → StepLine (step_with 1 xs) (111 ∷ fields xs)
unfolding step_with
opens-fit xs (fit_more h (fit_more i fit_none)) = opens _ _ h i

closes-fit : (xs : List ℕ) → AllFit 1 xs → StepLine (step_with 2 xs) (99 ∷ fields xs)
unfolding step_with
closes-fit xs (fit_more h fit_none) = closes _ h

reads_fit : (xs : List ℕ) → AllFit 3 xs → StepLine (step_with 3 xs) (114 ∷ fields xs)
unfolding step_with
reads_fit xs (fit_more h (fit_more i (fit_more j fit_none))) = reads _ _ _ h i j

writes-fit : (xs : List ℕ) → AllFit 4 xs → StepLine (step_with 4 xs) (119 ∷ fields xs)
unfolding step_with
writes-fit xs (fit_more h (fit_more i (fit_more j (fit_more k fit_none)))) = writes _ _ _ _ h i j k

exchanges-fit : (xs : List ℕ) → AllFit 3 xs → StepLine (step_with 5 xs) (120 ∷ fields xs)
unfolding step_with
exchanges-fit xs (fit_more h (fit_more i (fit_more j fit_none))) = exchanges _ _ _ h i j

-- By cases on a letter and its kind.
kind_of-elim : (P : ℕ → ℕ → Type 0) → P 111 1 → P 99 2 → P 114 3 → P 119 4 → P 120 5 → ((b : ℕ) → P b 0) → (b : ℕ) → P b (kind_of b)
unfolding kind_of
kind_of-elim P o c r w x neither b =
    cond-elim (P b) (eqb b 111) (at 1 o) (λ e₁.
    cond-elim (P b) (eqb b 99) (at 2 c) (λ e₂.
    cond-elim (P b) (eqb b 114) (at 3 r) (λ e₃.
    cond-elim (P b) (eqb b 119) (at 4 w) (λ e₄.
    cond-elim (P b) (eqb b 120) (at 5 x) (λ e₅. neither b)))))
  where
    at : {letter : ℕ} (kind : ℕ) → P letter kind → eqb b letter ≡ true → P b kind
    at {letter} kind p e = subst (λ l. P l kind) (sym (eqb-true b letter e)) p

-- What is read as a step is the spelling of one.
arguments-said : (kind : ℕ) {letter : ℕ} → ((xs : List ℕ) → AllFit (count_of kind) xs → StepLine (step_with kind xs) (letter ∷ fields xs)) → (bs : List ℕ) (g : Got Step)
    → read_arguments kind bs ≡ Some g → StepSaid (letter ∷ bs) g.value g.rest
unfolding read_arguments
arguments-said kind {letter} spelling bs g h =
    let c = chained (read_fields (count_of kind) bs) _ g h in
    let so = read-fields (count_of kind) bs c.found c.first_is in
    some_is (λ (r : Got Step). StepSaid (letter ∷ bs) r.value r.rest)
    (record { line = letter ∷ fields c.found.value; spells = spelling c.found.value so.1; is = ap (λ t. letter ∷ t) so.0 }) c.next_is

pub read-step : (bs : List ℕ) (g : Got Step) → read_step bs ≡ Some g → StepSaid bs g.value g.rest
unfolding read_step count_of
read-step [] g = none-some
read-step (b ∷ bs) g =
    kind_of-elim (λ letter kind. cond (eqb kind 0) None (read_arguments kind bs) ≡ Some g → StepSaid (letter ∷ bs) g.value g.rest)
    (arguments-said 1 opens-fit bs g) (arguments-said 2 closes-fit bs g) (arguments-said 3 reads_fit bs g) (arguments-said 4 writes-fit bs g)
    (arguments-said 5 exchanges-fit bs g) (λ letter. none-some) b

-- The spelling of a step is read.
arguments-read : (kind : ℕ) {xs : List ℕ} → AllFit (count_of kind) xs → (rest : List ℕ) → read_arguments kind (fields xs ++ rest) ≡ Some (record { value = step_with kind xs; rest = rest })
unfolding read_arguments chain
arguments-read kind fit rest = ap (λ o. chain o (λ xs behind. Some (record { value = step_with kind xs; rest = behind }))) (fields_read fit rest)

pub step-read : {x : Step} {line : List ℕ} → StepLine x line → (rest : List ℕ) → read_step (line ++ rest) ≡ Some (record { value = x; rest = rest })
unfolding read_step kind_of count_of step_with
step-read (opens s g h i) rest = arguments-read 1 (fit_more h (fit_more i fit_none)) rest
step-read (closes s h) rest = arguments-read 2 (fit_more h fit_none) rest
step-read (reads s a b h i j) rest = arguments-read 3 (fit_more h (fit_more i (fit_more j fit_none))) rest
step-read (writes s a b c h i j k) rest = arguments-read 4 (fit_more h (fit_more i (fit_more j (fit_more k fit_none)))) rest
step-read (exchanges s a b h i j) rest = arguments-read 5 (fit_more h (fit_more i (fit_more j fit_none))) rest

-- ---- the first line

-- What is read as sizes is their spelling.
sizes-fit : (n : ℕ) {xs : List ℕ} → AllFit 2 xs → size_line (record { n = (step_with 0 (n ∷ xs)).a; l = (step_with 0 (n ∷ xs)).b; p = (step_with 0 (n ∷ xs)).c }) ≡ decimal n ++ fields xs
unfolding step_with size_line numbers
sizes-fit n (fit_more h (fit_more i fit_none)) = refl

pub read-sizes : (bs : List ℕ) (g : Got Step) → read_sizes bs ≡ Some g → bs ≡ size_line (record { n = g.value.a; l = g.value.b; p = g.value.c }) ++ g.rest
unfolding read_sizes read_sizes_behind
read-sizes bs g h =
    let c = chained (read_number bs) read_sizes_behind g h in
    let n = c.found.value in
    let d = chained (read_fields 2 c.found.rest) _ g c.next_is in
    let first = read-number bs c.found c.first_is in
    let others = read-fields 2 c.found.rest d.found d.first_is in
    some_is (λ (r : Got Step). bs ≡ size_line (record { n = r.value.a; l = r.value.b; p = r.value.c }) ++ r.rest)
    (first.0 ∙ (ap (λ t. decimal n ++ t) others.0 ∙ (sym (append_assoc (decimal n) (fields d.found.value) d.found.rest) ∙ ap (λ t. t ++ d.found.rest) (sym (sizes-fit n others.1)))))
    d.next_is

-- The spelling of sizes is read.
pub sizes-read : (z : Size) → Fits z.n → Fits z.l → Fits z.p → (rest : List ℕ)
    → read_sizes (size_line z ++ rest) ≡ Some (record { value = record { kind = 0; a = z.n; b = z.l; c = z.p; d = 0 }; rest = rest })
unfolding read_sizes read_sizes_behind size_line numbers chain step_with
sizes-read z h i j rest =
    let xs = z.l ∷ z.p ∷ [] in
    ap (λ t. chain (read_number t) read_sizes_behind) (append_assoc (decimal z.n) (fields xs) rest)
    ∙ (ap (λ o. chain o read_sizes_behind) (number_read z.n h (fields-no-digit xs rest))
    ∙ ap (λ o. chain o (λ ys behind. Some (record { value = step_with 0 (z.n ∷ ys); rest = behind }))) (fields_read (fit_more i (fit_more j fit_none)) rest))

-- ---- behind a line there is less text

-- No spelling is empty.
fields-long : (xs : List ℕ) → 1 ≤ length (fields xs)
unfolding fields
fields-long [] = omega arith
fields-long (x ∷ xs) = omega arith

line-long : {x : Step} {line : List ℕ} → StepLine x line → 1 ≤ length line
line-long (opens s g h i) = omega arith
line-long (closes s h) = omega arith
line-long (reads s a b h i j) = omega arith
line-long (writes s a b c h i j k) = omega arith
line-long (exchanges s a b h i j) = omega arith

-- So what is behind it is shorter than the whole.
shorter : {bs : List ℕ} (line rest : List ℕ) → bs ≡ line ++ rest → 1 ≤ length line → length rest < length bs
shorter line rest e l = omega (arith, length-append line rest, ap length e)

pub read-step-shorter : (bs : List ℕ) (g : Got Step) → read_step bs ≡ Some g → length g.rest < length bs
read-step-shorter bs g h =
    let so = read-step bs g h in
    shorter so.line g.rest so.is (line-long so.spells)

pub read-sizes-shorter : (bs : List ℕ) (g : Got Step) → read_sizes bs ≡ Some g → length g.rest < length bs
unfolding size_line numbers
read-sizes-shorter bs g h =
    let others = g.value.b ∷ g.value.c ∷ [] in
    shorter (size_line (record { n = g.value.a; l = g.value.b; p = g.value.c })) g.rest (read-sizes bs g h)
    (omega (arith, length-append (decimal g.value.a) (fields others), fields-long others))
