-- How an outcome's answer and words come, and what a refusal leaves. Assumes nothing.
use Rattle.std.specs.Prelude.{ℕ, List, ◌≡◌, Result, Err}
use Rattle.std.proofs.Common.{refl, sym, ◌∙◌, ap, subst}
use Rattle.tables.specs.Size.{Size}
use Rattle.tables.specs.Layout.{encode, decode}
use Rattle.tables.specs.Refused.{code_of}
use Rattle.tables.specs.declared.refusal.Refusal.{Refusal}
use Rattle.views.specs.declared.Store.{Store}
use Rattle.rules.specs.Step.{refused}
use Rattle.rules.specs.Step as rules
use Rattle.rules.specs.Rules.{Outcome, refuse}
use Rattle.kinds.specs.Obeys.{answer_of, Held, Came, size_in, state_in, Sound, Kept, Comes}
use Rattle.kinds.specs.declared.Answer.{Answer}

-- By another outcome that is the same.
pub came : {z : Size} {o p : Outcome} {r : rules.Answer} {left : List ℕ} → o ≡ p → r ≡ p.answer → left ≡ encode z p.state → Came z o r left
came {z} same answer table =
    record { answer_is = answer ∙ ap (λ (q : Outcome). q.answer) (sym same); table_is = table ∙ ap (λ (q : Outcome). encode z q.state) (sym same) }

-- 01: "A refused step answers its code and four zeros; the table keeps every word."
pub came-refused : {z : Size} {t : List ℕ} → Held z t → {o : Outcome} {r : rules.Answer} (code : ℕ) → o ≡ refuse code (decode z t) → r ≡ refused code → Came z o r t
unfolding refuse
came-refused held code same answer = came same answer held.words

-- ---- a table that is changed

-- A call that is refused leaves it as it was.
pub comes-refused : {s : Store} → Sound s → {o : Outcome} {r : Result Answer Refusal} {e : Refusal} → r ≡ Err e → o ≡ refuse (code_of e) (state_in s)
    → Comes s o (answer_of r) s
comes-refused sound {e = e} is same =
    record {
      kept = record { words = refl; sizes = refl };
      came = came-refused sound (code_of e) same (ap (λ (q : Result Answer Refusal). answer_of q) is);
    }

-- It comes from an outcome that is the same.
pub comes-by : {s left : Store} {o p : Outcome} {r : rules.Answer} → o ≡ p → Comes s p r left → Comes s o r left
comes-by {s} {left} {o} {p} {r} same comes = subst (λ (q : Outcome). Comes s q r left) (sym same) comes

-- So by what is answered and the words that are left.
pub comes : {s left : Store} {o p : Outcome} {r : rules.Answer} → Kept s left → o ≡ p → r ≡ p.answer → left.words.now ≡ encode (size_in s) p.state → Comes s o r left
comes kept same answer table = record { kept = kept; came = came same answer table }
