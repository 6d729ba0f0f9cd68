-- The first line; and the steps collected so far, and those still to come. Assumes nothing.
use Rattle.std.specs.Prelude.{ℕ, suc, ◌+◌, ◌-◌, ◌*◌, ◌≤◌, ◌<◌, true, false, List, [], ◌∷◌, ◌++◌, ◌≡◌, refl, take, Some, Option, None, Ok, Err, Result, ok_or, IsErrAnd, get_or}
use Rattle.std.proofs.Common.{append_assoc, ◌∙◌, take-append-drop, drop_of_length-le, take_at, length-take-le}
use Rattle.std.proofs.Math.Path.{sym, ap}
use native.Mathlib.Omega.{arith}
use Rattle.std.proofs.Math.ListN.{length, drop, length-append, length-drop}
use Rattle.words.specs.Lists.{splice}
use Rattle.words.specs.TestLaws.{cond-true, cond-false}
use Rattle.words.specs.PartLaws.{splice-middle}
use Rattle.tables.specs.Size.{Size}
use Rattle.rules.specs.Step.{Step, steps_of, step_words}
use Rattle.rules.proofs.RunLaws.{steps_of-step_words, length-step_words}
use Rattle.lines.specs.Read.{Got, read_step, read_sizes, read_line}
use Rattle.lines.proofs.ReadLaws.{read-step-shorter, read-sizes-shorter}
use Rattle.lines.specs.Found.{words_of}
use Rattle.lines.proofs.LineLaws.{line-later}
use Rattle.script.specs.Reply.{most_steps, admissible}
use Rattle.script.specs.Collect.{Collected, whole, bad_at, longer, push, collect, sizes_of, collect_from}
use Rattle.script.proofs.CollectLaws.{bad-further, collect-ended, collect-full, collect-read, collect-unread}
use Rattle.script.specs.Listed.{collected_in, ListedPromise}
use Rattle.script.specs.declared.collecting.Listed.{Listed}
use Rattle.script.specs.declared.collecting.Fault.{Fault}
use Rattle.script.specs.ListedLaws.{push_all}

push_all-more : (xs : List Step) (x : Step) (o : Collected) → push_all xs (push x o) ≡ push_all (xs ++ (x ∷ [])) o
unfolding push_all
push_all-more [] x o = refl
push_all-more (y ∷ xs) x o = ap (push y) (push_all-more xs x o)

-- An ending that each step is pushed before.
push_all-as : (outcome : List Step → Collected) → ((x : Step) (xs : List Step) → outcome (x ∷ xs) ≡ push x (outcome xs)) → (xs : List Step) → push_all xs (outcome []) ≡ outcome xs
unfolding push_all
push_all-as outcome pushes [] = refl
push_all-as outcome pushes (x ∷ xs) = ap (push x) (push_all-as outcome pushes xs) ∙ sym (pushes x xs)

step_words-append : (xs ys : List Step) → step_words (xs ++ ys) ≡ step_words xs ++ step_words ys
unfolding step_words
step_words-append [] ys = refl
step_words-append (x ∷ xs) ys = ap {B = List ℕ} (λ ws. x.kind ∷ x.a ∷ x.b ∷ x.c ∷ x.d ∷ ws) (step_words-append xs ys)

module _ (text : List ℕ) (z : Size) where
  -- Behind a first line of these sizes so many steps stand in words, and the text goes on at a place.
  pub record Listing (count : ℕ) (words : List ℕ) (at : ℕ) : Type 0 where
    pub steps : List Step
    pub behind : List ℕ
    pub words_are : words ≡ step_words steps ++ behind
    pub count_is : length steps ≡ count
    pub so_far : push_all steps (collect z (most_steps - count) (drop at text)) ≡ collect_from (read_sizes text)
    pub later : 0 < at

  module _ {count : ℕ} {words : List ℕ} {at : ℕ} (so : Listing count words at) where
    words_count : length (step_words so.steps) ≡ count * 5
    words_count = length-step_words so.steps ∙ ap (λ n. n * 5) so.count_is

    -- The text has ended.
    pub listing-ends : length text ≤ at → whole z (steps_of (take (count * 5) words)) ≡ collect_from (read_sizes text)
    unfolding push
    listing-ends h =
        ap (λ ws. whole z (steps_of (take (count * 5) ws))) so.words_are
        ∙ (ap (whole z) (ap steps_of (take_at (step_words so.steps) so.behind (count * 5) words_count) ∙ steps_of-step_words so.steps)
        ∙ (sym (push_all-as (whole z) (λ x xs. refl) so.steps)
        ∙ (ap (push_all so.steps) (sym (ap (collect z (most_steps - count)) (drop_of_length-le text {i = at} h) ∙ collect-ended z (most_steps - count)))
        ∙ so.so_far)))

    there : at < length text → 0 < length (drop at text)
    there h = omega (arith, length-drop at text)

    -- There is no room for another step.
    pub listing-longer : at < length text → count ≡ most_steps → longer ≡ collect_from (read_sizes text)
    unfolding push
    listing-longer h full =
        let none_left : most_steps - count ≡ 0 = omega arith in
        sym (push_all-as (λ xs. longer) (λ x xs. refl) so.steps)
        ∙ (ap (push_all so.steps) (sym (ap (λ r. collect z r (drop at text)) none_left ∙ collect-full z (drop at text) (there h)))
        ∙ so.so_far)

    module _ (h : at < length text) (few : count < most_steps) where
      room : most_steps - count ≡ suc (most_steps - (count + 1))
      room = omega arith

      is-step : {o : Option (Got Step)} → read_line text at ≡ o → read_step (drop at text) ≡ o
      is-step read = sym (line-later text at (λ start. omega (arith, so.later))) ∙ read

      -- The next line is bad,
      pub listing-bad : read_line text at ≡ None → bad_at (count + 2) ≡ collect_from (read_sizes text)
      unfolding push
      listing-bad read =
          ap (λ k. bad_at (k + 2)) (sym so.count_is)
          ∙ (sym (push_all-as (λ xs. bad_at (length xs + 2)) bad-further so.steps)
          ∙ (ap (push_all so.steps) (sym (ap (λ m. collect z m (drop at text)) room ∙ collect-unread z (most_steps - (count + 1)) (drop at text) (there h) (is-step read)))
          ∙ so.so_far))

      -- or one step more.
      pub listing-on : {g : Got Step} {next : ℕ} → read_line text at ≡ Some g → drop next text ≡ g.rest → 2560 ≤ length words → Listing (count + 1) (splice (count * 5) 5 words (words_of g.value)) next
      unfolding step_words
      listing-on {g} {next} read rest wide =
          let x : Step = g.value in
          let found = is-step read in
          let long = length-append (step_words so.steps) so.behind in
          let many = ap length so.words_are in
          record {
            steps = so.steps ++ (x ∷ []);
            behind = drop 5 so.behind;
            words_are =
                ap (λ ws. splice (count * 5) 5 ws (words_of x)) (so.words_are ∙ ap (λ ws. step_words so.steps ++ ws) (sym (take-append-drop 5 so.behind)))
                ∙ (splice-middle (step_words so.steps) (take 5 so.behind) (drop 5 so.behind) (count * 5) 5 (words_of x) words_count
                (length-take-le 5 so.behind (omega (arith, long, many, words_count)))
                ∙ (sym (append_assoc (step_words so.steps) (step_words (x ∷ [])) (drop 5 so.behind))
                ∙ ap (λ ws. ws ++ drop 5 so.behind) (sym (step_words-append so.steps (x ∷ [])))));
            count_is = length-append so.steps (x ∷ []) ∙ ap (λ n. n + 1) so.count_is;
            so_far =
                ap (λ bs. push_all (so.steps ++ (x ∷ [])) (collect z (most_steps - (count + 1)) bs)) rest
                ∙ (sym (push_all-more so.steps x _)
                ∙ (ap (push_all so.steps) (sym (ap (λ m. collect z m (drop at text)) room ∙ collect-read z (most_steps - (count + 1)) (drop at text) _ found))
                ∙ so.so_far));
            later = omega (arith, read-step-shorter (drop at text) _ found, ap length rest, length-drop at text, length-drop next text);
          }

-- ---- the first line

module _ (text : List ℕ) where
  first_is : {o : Option (Got Step)} → read_line text 0 ≡ o → read_sizes text ≡ o
  unfolding read_line
  first_is read = read

  -- It is bad,
  pub first-bad : read_line text 0 ≡ None → bad_at 1 ≡ collect_from (read_sizes text)
  unfolding collect_from
  first-bad read = ap collect_from (sym (first_is read))

  module _ {g : Got Step} (read : read_line text 0 ≡ Some g) {z : Size} (same : z ≡ sizes_of g.value) where
    -- or has sizes that a script may not ask for,
    pub first-refused : admissible z ≡ false → bad_at 1 ≡ collect_from (read_sizes text)
    unfolding collect_from
    first-refused fails = sym (ap collect_from (first_is read) ∙ cond-false (admissible (sizes_of g.value)) _ _ (ap admissible (sym same) ∙ fails))

    -- or the steps begin behind it.
    pub first_good : admissible z ≡ true → {words : List ℕ} {next : ℕ} → drop next text ≡ g.rest → Listing text z 0 words next
    unfolding push_all step_words collect_from
    first_good ok {words} {next} rest =
        record {
          steps = [];
          behind = words;
          words_are = refl;
          count_is = refl;
          so_far =
              ap (collect z most_steps) rest
              ∙ (ap (λ y. collect y most_steps g.rest) same
              ∙ sym (ap collect_from (first_is read) ∙ cond-true (admissible (sizes_of g.value)) _ _ (ap admissible (sym same) ∙ ok)));
          later = omega (arith, read-sizes-shorter text _ (first_is read), ap length rest, length-drop next text);
        }

-- The sizes that a line's words say.
pub sizes-are : {x : Step} {ws : List ℕ} {z : Size} → ws ≡ words_of x → z ≡ record { n = get_or ws 1 0; l = get_or ws 2 0; p = get_or ws 3 0 } → z ≡ sizes_of x
unfolding sizes_of
sizes-are e is = is ∙ ap (λ (ws : List ℕ). record { n = get_or ws 1 0; l = get_or ws 2 0; p = get_or ws 3 0 }) e

-- ---- what is answered

-- A bad line is told.
abbrev told : Fault → Result (List ℕ) Fault → Fault
told f (Ok ws) = f
told f (Err e) = e

pub listed-fault : (text words : List ℕ) (read : Option (List ℕ)) (x f : Fault) (r : Result Listed Fault) → read ≡ None → ◌≡◌ {A = Result (List ℕ) Fault} (Err x) (ok_or read f)
    → IsErrAnd r (λ e. e ≡ x) → collected_in words (Err f) ≡ collect_from (read_sizes text) → ListedPromise text r words
listed-fault text words read x f (Ok s) none is given so = absurd given
listed-fault text words read x f (Err e) none is given so =
    record { found_is = ap (λ g. collected_in words (Err g)) (given ∙ ap (told f) (is ∙ ap (λ o. ok_or o f) none)) ∙ so; fits = tt }
