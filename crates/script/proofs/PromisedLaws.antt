-- From what is printed to the reply. Assumes nothing.
use Rattle.std.specs.Prelude.{ℕ, ◌+◌, ◌*◌, ◌≤◌, Bool, true, false, List, [], ◌∷◌, ◌++◌, ◌↔◌, ◌≡◌, refl, take, drop, Result, Ok, Err, IfOk}
use Rattle.std.proofs.Common.{⊎_elim, sym, ◌∙◌, ap₂, subst, arith, take_at}
use Rattle.std.proofs.Math.Path.{ap}
use borrow.Author.Tests.{leb-true, le-leb}
use Rattle.std.proofs.Math.ListN.{length, length-append}
use Rattle.words.specs.Lists.{splice}
use Rattle.words.specs.TestLaws.{and_left, and_right, either, true-not-false}
use Rattle.tables.specs.Size.{Size}
use Rattle.tables.specs.Shape.{shape}
use Rattle.rules.specs.Step.{Answer, steps_of, answer_words}
use Rattle.lines.specs.Decimal.{decimal, greatest}
use Rattle.lines.proofs.DecimalLaws.{length-decimal}
use Rattle.lines.specs.Line.{fields}
use Rattle.printing.specs.Printed.{Puts, Adds, word_lines}
use Rattle.printing.specs.declared.Page.{Page}
use Rattle.script.specs.Reply.{answer_line, most_bytes, answer_lines, too_long, bad_line, Reply}
use Rattle.script.specs.Collect.{whole, reply_for, reply_to}
use Rattle.script.proofs.ReplyLaws.{reply-found, reply-settled, short-one}
use Rattle.script.specs.Promised.{answers_of, Room, roomy, Replied, Misfits, ReplyPromise}
use Rattle.script.specs.Listed.{collected_in, Fits, ListedPromise}
use Rattle.script.specs.declared.collecting.Listed.{Listed}
use Rattle.script.specs.declared.collecting.Fault.{Fault}
use Rattle.script.specs.declared.collecting.Fault.TheVariants.{BadLine, TooLong}

-- The same bytes.
pub puts-as : {o bs cs e : List ℕ} {at r : ℕ} → bs ≡ cs → Puts o at bs r e → Puts o at cs r e
puts-as {o} {e = e} {at = at} {r = r} same p = subst (λ xs. Puts o at xs r e) same p

-- The lines of the words of answers are those of the answers.
pub word_lines-answers : (rs : List Answer) → word_lines (answer_words rs) ≡ answer_lines rs
unfolding word_lines answer_words answer_lines answer_line
word_lines-answers [] = refl
word_lines-answers (r ∷ rs) = ap (λ (ls : List ℕ). answer_line r ++ ls) (word_lines-answers rs)

-- Put where the answers stand in words.
pub puts-answers : {o ws e : List ℕ} {r : ℕ} (rs : List Answer) → ws ≡ answer_words rs → Puts o 0 (word_lines ws) r e → Puts o 0 (answer_lines rs) r e
puts-answers rs is p = puts-as (ap word_lines is ∙ word_lines-answers rs) p

-- The same bytes on a page.
pub adds-as : {p q : Page} {bs cs : List ℕ} → bs ≡ cs → Adds p bs q → Adds p cs q
adds-as {p} {q} same a = subst (λ xs. Adds p xs q) same a

-- `bad line K` has ten bytes beside those of the number.
pub length-bad_line : (k : ℕ) → length (bad_line k) ≡ 10 + length (decimal k)
unfolding bad_line fields
length-bad_line k = omega (arith, length-append (decimal k) (10 ∷ []))

-- Its number has few digits.
pub bad_line-fits : (k : ℕ) (out : List ℕ) → k ≤ greatest → 28160 ≤ length out → length (bad_line k) ≤ length out
bad_line-fits k out small wide = omega (arith, length-bad_line k, length-decimal k small)

-- ---- what was listed

-- What is printed for an answer is the reply.
pub listed-says : (text : List ℕ) → length text ≤ most_bytes → {r : Result Listed Fault} {words : List ℕ} → ListedPromise text r words → reply_for (collected_in words r) ≡ reply_to text
listed-says text short found = ap reply_for found.found_is ∙ sym (short-one text short)

pub listed-answers : (z : Size) (words : List ℕ) {ws : List ℕ} (n : ℕ) → ws ≡ answer_words (answers_of z (take n words)) → word_lines ws ≡ reply_for (whole z (steps_of (take n words)))
unfolding reply_for answers_of
listed-answers z words n is = ap word_lines is ∙ word_lines-answers _

module _ (text : List ℕ) (short : length text ≤ most_bytes) {r : Result Listed Fault} {words : List ℕ} (found : ListedPromise text r words) where
  pub listed-fits : {s : Listed} → r ≡ Ok s → Fits s
  listed-fits e = subst (λ (x : Result Listed Fault). IfOk x (λ s. Fits s)) e found.fits

  listed_is : {x : Result Listed Fault} → r ≡ x → reply_for (collected_in words x) ≡ reply_to text
  listed_is e = ap (λ x. reply_for (collected_in words x)) (sym e) ∙ listed-says text short found

  -- Printed from the buffer's start on.
  module _ {o e : List ℕ} {m : ℕ} where
    pub listed-whole : {s : Listed} → r ≡ Ok s → Puts o 0 (answer_lines (answers_of (shape s.sizes) (take (s.count * 5) words))) m e → Puts o 0 (reply_to text) m e
    unfolding reply_for answers_of
    listed-whole is put = puts-as (listed_is is) put

    pub listed-bad : {k : ℕ} → r ≡ Err (BadLine k) → Puts o 0 (bad_line k) m e → Puts o 0 (reply_to text) m e
    unfolding reply_for
    listed-bad is put = puts-as (listed_is is) put

    pub listed-longer : r ≡ Err TooLong → Puts o 0 too_long m e → Puts o 0 (reply_to text) m e
    unfolding reply_for
    listed-longer is put = puts-as (listed_is is) put

-- ---- with room and without

module _ (table steps answers out : List ℕ) where
  roomy-room : roomy table steps answers out ≡ true → Room table steps answers out
  unfolding roomy
  roomy-room h =
      record {
        for_table = leb-true 9012 (length table) (search and_left);
        for_steps = leb-true 2560 (length steps) (search (and_left, and_right));
        for_answers = leb-true 2560 (length answers) (search (and_left, and_right));
        for_out = leb-true 28160 (length out) (search (and_left, and_right));
      }

  room-roomy : Room table steps answers out → roomy table steps answers out ≡ true
  unfolding roomy
  room-roomy room = rw (le-leb _ _ room.for_table, le-leb _ _ room.for_steps, le-leb _ _ room.for_answers, le-leb _ _ room.for_out)

  -- There is room or there isn't.
  room-cases : {A : Type 0} → (Room table steps answers out → A) → ((Room table steps answers out → ⊥) → A) → A
  room-cases with_room without =
      ⊎_elim (λ e. with_room (roomy-room e)) (λ e. without (λ room. true-not-false (room-roomy room) e)) (either (roomy table steps answers out))

-- By the test of the lengths.
module _ (table steps answers out : List ℕ) {ok : Bool} (is : ok ≡ roomy table steps answers out) where
  pub tested-room : ok ≡ true → Room table steps answers out
  tested-room h = roomy-room table steps answers out (sym is ∙ h)

  module _ (text : List ℕ) where
    pub replied : ok ≡ true → {count : ℕ} {table' steps' answers' out' : List ℕ} → Puts out 0 (reply_to text) count out'
        → ReplyPromise text table steps answers out 0 count table' steps' answers' out'
    unfolding splice
    replied h p =
        record {
          with_room = λ _. record { bytes = reply_to text; is_reply = reply-found text; code_is = refl; count_is = omega (arith, p.next); written = p.written };
          without = λ small. absurd (small (tested-room h));
          within = omega (arith, p.next, ap length p.written, length-append (reply_to text) (drop (length (reply_to text)) out));
        }

    -- With the reply on a page of `out`.
    pub replied_on : ok ≡ true → {start left : Page} {table' steps' answers' : List ℕ} → start.len ≡ 0 → start.bytes.now ≡ out → Adds start (reply_to text) left
        → {count : ℕ} {out' : List ℕ} → count ≡ left.len → out' ≡ left.bytes.now → ReplyPromise text table steps answers out 0 count table' steps' answers' out'
    replied_on h {start} {left} empty same p {count} {out'} counted last =
        let bytes = reply_to text in
        replied h
        (record {
          written = last ∙ p.puts.written ∙ ap₂ (λ at o. splice at (length bytes) o bytes) empty same;
          next = omega (arith, p.puts.next, empty, counted);
        })

    pub refused : ok ≡ false → ReplyPromise text table steps answers out 8 0 table steps answers out
    refused h =
        record {
          with_room = λ room. true-not-false (room-roomy table steps answers out room) (sym is ∙ h);
          without = λ _. record { code_is = refl; count_is = refl; table_kept = refl; steps_kept = refl; answers_kept = refl; out_kept = refl };
          within = omega arith;
        }

-- ---- what the promise says

-- 01, "Answer codes": 8 exactly if a length doesn't fit.
pub reply-8-exactly : (text table steps answers out : List ℕ) {code count : ℕ} {table' steps' answers' out' : List ℕ}
    → ReplyPromise text table steps answers out code count table' steps' answers' out' → (code ≡ 8) ↔ (Room table steps answers out → ⊥)
reply-8-exactly text table steps answers out p = (λ e room. omega (arith, (p.with_room room).code_is), λ small. (p.without small).code_is)

-- The first `count` bytes are the reply.
pub replied-front : {text out : List ℕ} {code count : ℕ} {left : List ℕ} → Replied text out code count left → Reply text (take count left)
replied-front {text} {out} {count = count} p =
    subst (Reply text) (sym (ap (take count) p.written ∙ take_at p.bytes (drop (length p.bytes) out) count (sym p.count_is))) p.is_reply

replied-settled : {text out : List ℕ} {c d m n : ℕ} {left last : List ℕ} → Replied text out c m left → Replied text out d n last → (c ≡ d) × (m ≡ n) × (left ≡ last)
replied-settled {text} {out} p q =
    let same = reply-settled text p.bytes q.bytes p.is_reply q.is_reply in (
      p.code_is ∙ sym q.code_is,
      p.count_is ∙ (ap length same ∙ sym q.count_is),
      p.written ∙ (ap (λ bs. bs ++ drop (length bs) out) same ∙ sym q.written),
    )

misfits-settled : {table steps answers out : List ℕ} {c d m n : ℕ} {t s a o t' s' a' o' : List ℕ} → Misfits table steps answers out c m t s a o → Misfits table steps answers out d n t' s' a' o'
    → ((c ≡ d) × (m ≡ n) × (o ≡ o')) × ((t ≡ t') × (s ≡ s') × (a ≡ a'))
misfits-settled p q = (
  (p.code_is ∙ sym q.code_is, p.count_is ∙ sym q.count_is, p.out_kept ∙ sym q.out_kept),
  (p.table_kept ∙ sym q.table_kept, p.steps_kept ∙ sym q.steps_kept, p.answers_kept ∙ sym q.answers_kept),
)

-- Two results that the promise allows are equal: code, count and every byte of `out`; without room also every word of the others.
pub promise-settled : (text table steps answers out : List ℕ) {c d m n : ℕ} {t s a o t' s' a' o' : List ℕ}
    → ReplyPromise text table steps answers out c m t s a o → ReplyPromise text table steps answers out d n t' s' a' o'
    → ((c ≡ d) × (m ≡ n) × (o ≡ o')) × ((Room table steps answers out → ⊥) → (t ≡ t') × (s ≡ s') × (a ≡ a'))
promise-settled text table steps answers out p q = (
  room-cases table steps answers out (λ room. replied-settled (p.with_room room) (q.with_room room)) (λ small. (misfits-settled (p.without small) (q.without small)).0),
  λ small. (misfits-settled (p.without small) (q.without small)).1,
)
