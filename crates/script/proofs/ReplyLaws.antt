-- The reply that the code finds is one of those that Reply.antt allows, and there is no other. Assumes nothing.
use Rattle.std.proofs.lemmas.Option.{none-some, same_Some}
use Rattle.std.specs.Prelude.{ℕ, ◌+◌, ◌<◌, ◌≤◌, true, false, List, ◌++◌, ◌≡◌, refl, ltb, leb, length, take, Option, None, Some}
use Rattle.std.proofs.Common.{append_assoc, ⊎_elim, sym, ◌∙◌, ap, subst, arith, ltb-true, ltb-false, lt-ltb, le-ltb, take_all, length-take-le}
use Rattle.words.specs.CaseLaws.{lt-or-le}
use Rattle.words.specs.TestLaws.{cond-elim, cond-true, cond-false, and_left, true-not-false}
use Rattle.tables.specs.Size.{Size, within}
use Rattle.tables.proofs.SizeLaws.{within-exactly}
use Rattle.rules.specs.Step.{Step}
use Rattle.lines.specs.Line.{size_line}
use Rattle.lines.specs.Read.{Got, read_sizes}
use Rattle.lines.proofs.ReadLaws.{read-sizes, sizes-read}
use Rattle.lines.specs.FeedLaws.{feeds}
use Rattle.lines.proofs.FeedLaws.{feeds-append, feeds-size_line, feeds-step_line}
use Rattle.script.specs.Reply.{most_bytes, most_steps, admissible, StepLines, no_lines, next_line, Script, script, BadFirst, too_long, Reply, too_many_bytes, bad_first_line, bad_step_line, too_many_lines, answered}
use Rattle.script.specs.Collect.{Collected, whole, bad_at, sizes_of, collect_from, reply_for, reply_to}
use Rattle.script.specs.CollectLaws.{Says, all_good, one_bad, goes_on}
use Rattle.script.proofs.CollectLaws.{collect-says, says-collect}
use Rattle.script.specs.ReplyLaws.{first}

-- ---- the first line

-- A good first line is read.
first_read : (text : List ℕ) (z : Size) (rest : List ℕ) → admissible z ≡ true → text ≡ size_line z ++ rest → read_sizes text ≡ Some (first z rest)
unfolding admissible
first_read text z rest ok is =
    let b = (within-exactly z).0 (and_left (within z) (leb z.l 128) ok) in
    ap read_sizes is ∙ sizes-read z (omega (arith, b.few_servers)) (omega (arith, b.few_places)) (omega (arith, b.few_slots)) rest

-- Where none is read, or one of inadmissible sizes, there is none.
unread-bad : (text : List ℕ) → read_sizes text ≡ None → BadFirst text
unread-bad text e z rest ok is = none-some (first z rest) (sym e ∙ first_read text z rest ok is)

inadmissible-bad : (text : List ℕ) (g : Got Step) → read_sizes text ≡ Some g → admissible (sizes_of g.value) ≡ false → BadFirst text
unfolding sizes_of
inadmissible-bad text g e fails z rest ok is =
    let same = same_Some g (first z rest) (sym e ∙ first_read text z rest ok is) in
    true-not-false (ap (λ h. admissible (sizes_of h.value)) same ∙ ok) fails

-- ---- the reply that is found is one

-- Behind a good first line it is what the collected lines say.
behind-found : (text : List ℕ) (z : Size) {rest : List ℕ} {o : Collected} → length text ≤ most_bytes → admissible z ≡ true → text ≡ size_line z ++ rest → Says z most_steps rest o
    → Reply text (reply_for o)
unfolding reply_for
behind-found text z short ok is (all_good {xs = xs} lines fit) =
    answered short z xs (subst (Script z xs) (sym is) (script ok lines)) fit
behind-found text z short ok is (one_bad {xs = xs} {front = front} {rest = rest} lines fit bad) =
    bad_step_line short z xs (size_line z ++ front) rest (script ok lines) (is ∙ sym (append_assoc (size_line z) front rest)) (omega arith) bad
behind-found text z short ok is (goes_on {xs = xs} {front = front} rest lines fill there) =
    too_many_lines short z xs (size_line z ++ front) rest (script ok lines) (is ∙ sym (append_assoc (size_line z) front rest)) fill there

-- With the first line as it was read.
from_found : (text : List ℕ) → length text ≤ most_bytes → (o : Option (Got Step)) → read_sizes text ≡ o → Reply text (reply_for (collect_from o))
unfolding collect_from reply_for sizes_of
from_found text short None e = bad_first_line short (unread-bad text e)
from_found text short (Some g) e =
    cond-elim (λ (o : Collected). Reply text (reply_for o)) (admissible (sizes_of g.value))
    (λ ok. behind-found text (sizes_of g.value) short ok (read-sizes text g e) (collect-says (sizes_of g.value) most_steps g.rest))
    (λ fails. bad_first_line short (inadmissible-bad text g e fails))

-- What the code finds for a text is a reply to it.
pub reply-found : (text : List ℕ) → Reply text (reply_to text)
unfolding reply_to
reply-found text =
    cond-elim (λ (out : List ℕ). Reply text out) (ltb most_bytes (length text)) (λ e. too_many_bytes (ltb-true most_bytes (length text) e))
    (λ e. from_found text (ltb-false most_bytes (length text) e) (read_sizes text) refl)

-- ---- there is no other

-- A text of more bytes than the limit, and one within it.
pub long-one : (text : List ℕ) → most_bytes < length text → reply_to text ≡ too_long
unfolding reply_to
long-one text long = cond-true (ltb most_bytes (length text)) _ _ (lt-ltb most_bytes (length text) long)

pub short-one : (text : List ℕ) → length text ≤ most_bytes → reply_to text ≡ reply_for (collect_from (read_sizes text))
unfolding reply_to
short-one text short = cond-false (ltb most_bytes (length text)) _ _ (le-ltb most_bytes (length text) short)

-- Without a good first line it is bad line 1.
bad-one : (text : List ℕ) → BadFirst text → (o : Option (Got Step)) → read_sizes text ≡ o → collect_from o ≡ bad_at 1
unfolding collect_from sizes_of
bad-one text bad None e = refl
bad-one text bad (Some g) e =
    cond-elim (λ (o : Collected). o ≡ bad_at 1) (admissible (sizes_of g.value))
    (λ ok. absurd (bad (sizes_of g.value) g.rest ok (read-sizes text g e))) (λ fails. refl)

-- Behind one it is what the lines say.
behind-one : (text : List ℕ) (z : Size) {rest : List ℕ} {o : Collected} → length text ≤ most_bytes → admissible z ≡ true → text ≡ size_line z ++ rest → Says z most_steps rest o
    → reply_for o ≡ reply_to text
unfolding collect_from sizes_of
behind-one text z {rest} short ok is says =
    sym (short-one text short ∙ ap reply_for (ap collect_from (first_read text z rest ok is) ∙ (cond-true (admissible z) _ _ ok ∙ says-collect z says)))

whole-one : (z : Size) (text : List ℕ) (xs : List Step) → length text ≤ most_bytes → Script z xs text → length xs ≤ most_steps → reply_for (whole z xs) ≡ reply_to text
whole-one z text xs short (script ok good) fit = behind-one text z short ok refl (all_good good fit)

-- Each reply to a text is what the code finds for it.
pub reply-one : (text out : List ℕ) → Reply text out → out ≡ reply_to text
unfolding reply_for
reply-one text out (too_many_bytes long) = sym (long-one text long)
reply-one text out (bad_first_line short bad) = sym (short-one text short ∙ ap reply_for (bad-one text bad (read_sizes text) refl))
reply-one text out (bad_step_line short z xs front rest (script {text = lines} ok good) is fit bad) =
    behind-one text z short ok (is ∙ append_assoc (size_line z) lines rest) (one_bad good fit bad)
reply-one text out (too_many_lines short z xs front rest (script {text = lines} ok good) is fill there) =
    behind-one text z short ok (is ∙ append_assoc (size_line z) lines rest) (goes_on rest good fill there)
reply-one text out (answered short z xs said fit) = whole-one z text xs short said fit

-- So a text settles its reply.
pub reply-settled : (text one other : List ℕ) → Reply text one → Reply text other → one ≡ other
reply-settled text one other p q = reply-one text one p ∙ sym (reply-one text other q)

-- The program reads at most 16,385 bytes, one more than the limit: the reply to what it has read is the reply to the whole text.
pub reply-whole : (text out : List ℕ) → Reply (take 16385 text) out → Reply text out
reply-whole text out said = subst (Reply text) (sym (reply-one (take 16385 text) out said ∙ same)) (reply-found text)
  where
    same : reply_to (take 16385 text) ≡ reply_to text
    same =
        ⊎_elim (λ long. long-one (take 16385 text) (omega (arith, length-take-le 16385 text long)) ∙ sym (long-one text long))
        (λ short. ap reply_to (take_all 16385 text (omega arith))) (lt-or-le most_bytes (length text))

-- ---- the number of a bad line

-- A script has as many line feeds as it has lines: one of sizes, and one for each step. So what stands behind k steps is line k + 2.
steps-feeds : {xs : List Step} {text : List ℕ} → StepLines xs text → feeds text ≡ length xs
unfolding feeds
steps-feeds no_lines = refl
steps-feeds (next_line {line = line} {text = text} said lines) = omega (arith, feeds-append line text, feeds-step_line said, steps-feeds lines)

pub script-feeds : {z : Size} {xs : List Step} {text : List ℕ} → Script z xs text → feeds text ≡ length xs + 1
script-feeds {z} (script {text = text} ok lines) = omega (arith, feeds-append (size_line z) text, feeds-size_line z, steps-feeds lines)
