-- What an exchange reads of a table and makes of its words: what the rules say. Assumes nothing.
use Rattle.std.specs.Prelude.{ℕ, ◌+◌, ◌-◌, ◌<◌, min, ◌≡◌, refl, eqb, drop, List, ◌++◌, map}
use Rattle.std.proofs.Common.{sym, ◌∙◌, arith, eq-eqb, ne_eqb}
use Rattle.std.proofs.Math.Path.{ap, ap₂, subst, subst₂}
use Rattle.std.proofs.Math.ListN.{length, get_or, take}
use Rattle.words.specs.Lists.{In, row, part, splice}
use Rattle.words.specs.ListLaws.{in_take}
use Rattle.words.specs.RowLaws.{get_or-row}
use Rattle.words.specs.SetLaws.{part-row}
use Rattle.words.specs.SpanLaws.{span}
use Rattle.words.specs.LentLaws.{lent}
use Rattle.words.specs.TestLaws.{cond-true, cond-false}
use Rattle.vectors.specs.Vector.{vector_of}
use Rattle.std.proofs.Common.{length-take-le}
use Rattle.std.proofs.lemmas.List.{length-map, take-append-le}
use Rattle.logs.specs.declared.Entry.{Entry}
use Rattle.logs.specs.Stored.{write_of}
use Rattle.logs.specs.Write.{Write}
use Rattle.logs.specs.Log.{insert_all, lacking, follow}
use Rattle.logs.proofs.LogLaws.{length-insert_all, take-ascending, lacking-ascending, in-lacking}
use Rattle.logs.specs.Ascending.{Ascending}
use Rattle.tables.specs.declared.Table.{Table}
use Rattle.tables.specs.Shape.{shape}
use Rattle.tables.specs.Size.{Size}
use Rattle.tables.specs.State.{State, with_log}
use Rattle.tables.specs.Layout.{vector_at, count_at, encode, decode}
use Rattle.tables.proofs.LayoutLaws.{vector-encode, length-encode}
use Rattle.tables.proofs.BoundLaws.{vector-within}
use Rattle.tables.proofs.ViewLaws.{room-view, vector-view, count-view}
use Rattle.tables.proofs.PutLaws.{put-vector-row, room-with_log}
use Rattle.rules.specs.Step.{Answer, exchanges, refused}
use Rattle.rules.specs.Rules.{going_over, sent, received, exchange_answer, exchanging, obeyed}
use Rattle.tables.proofs.LaidLaws.{length-vector, vector_at-from}
use Rattle.logs.proofs.CongLaws.{lacking-cong, follow-held}
use Rattle.kinds.specs.Obeys.{Held, Fitting, Obeyed}
use Rattle.kinds.specs.CameLaws.{came, came-refused}

-- ---- the server that receives

-- Once the writes of an exchange stand in the log, the vector follows.
exchange-stores : (z : Size) (s : State) (i : ℕ) → i < z.n → (ws : List Write)
    → splice (vector_at z i 0) z.n (encode z (with_log s i (insert_all ws (s.log i)))) (row z.n (follow ws (s.vector i)))
    ≡ encode z (received s i ws)
unfolding received
exchange-stores z s i h ws = put-vector-row z (with_log s i (insert_all ws (s.log i))) i h (follow ws (s.vector i))

module _ {z : Size} {t : List ℕ} (held : Held z t) (i : ℕ) (h : i < z.n) (ws : List Write) (fitting : Fitting z (decode z t) i ws)
    {grown : List ℕ} (inserted : grown ≡ encode z (with_log (decode z t) i (insert_all ws ((decode z t).log i)))) where
  -- Its vector is still there when its log has grown,
  vector-kept : part grown (vector_at z i 0) z.n ≡ row z.n ((decode z t).vector i)
  unfolding with_log
  vector-kept =
      let s = decode z t in
      let g = insert_all ws (s.log i) in
      let room = room-with_log z s (room-view held) i g (omega (arith, length-insert_all ws (s.log i), fitting.fit)) in
      ap (λ (us : List ℕ). part us (vector_at z i 0) z.n) inserted
      ∙ part-row (encode z (with_log s i g)) (vector_at z i 0) z.n 0 (s.vector i)
      (omega (arith, length-encode z (with_log s i g) room, vector-within z i h))
      (λ j l. ap (λ a. get_or (encode z (with_log s i g)) a 0) (vector_at-from z i j refl) ∙ vector-encode z (with_log s i g) i h j l)

  -- and follows, lent from one place to another.
  pub writes-received : {left : List ℕ} {from to : ℕ} → from ≡ vector_at z i 0 → to ≡ from + z.n
      → left ≡ row (length (take (to - from) (drop from grown))) (follow ws (vector_of (take (to - from) (drop from grown))))
      → take from grown ++ (left ++ drop (to - from) (drop from grown)) ≡ encode z (received (decode z t) i ws)
  writes-received begins ends followed =
      let v = (decode z t).vector i in
      let old = span grown z.n begins ends ∙ vector-kept in
      lent grown z.n begins ends (followed ∙ (ap (λ (r : List ℕ). row (length r) (follow ws (vector_of r))) old ∙ follow-held z.n ws v))
      ∙ (ap (λ (r : List ℕ). splice (vector_at z i 0) z.n r (row z.n (follow ws v))) inserted ∙ exchange-stores z (decode z t) i h ws)

-- ---- the exchange

-- The writes that go over.
pub record Sending (z : Size) (t : List ℕ) (source target most k : ℕ) (ws : List Write) : Type 0 where
  -- "k the least of their number, "most" and the free places at "to"."
  pub many : k ≡ going_over z (decode z t) source target most
  pub are : ws ≡ sent z (decode z t) source target most
  pub fitting : Fitting z (decode z t) target ws

module _ {z : Size} {t : List ℕ} (held : Held z t) (source target : ℕ) where
  -- Code 4: "exchange from a server to itself".
  pub exchange-refused : (most : ℕ) {r : Answer} → source ≡ target → r ≡ refused 4 → Obeyed z t (exchanges source target most) r t
  unfolding obeyed exchanging
  exchange-refused most same answer = came-refused held 4 (cond-true (eqb source target) _ _ (eq-eqb source target same)) answer

  -- "Answers server = to, origin = from, clock 0, value = k."
  pub exchange-done : (most : ℕ) {k : ℕ} {ws : List Write} {left : List ℕ} → Sending z t source target most k ws → (source ≡ target → ⊥)
      → left ≡ encode z (received (decode z t) target ws)
      → Obeyed z t (exchanges source target most) (record { code = 0; server = target; origin = source; clock = 0; value = k }) left
  unfolding obeyed exchanging exchange_answer
  exchange-done most over apart took_in =
      came (cond-false (eqb source target) _ _ (ne_eqb source target apart)) (ap (exchange_answer source target) over.many)
      (took_in ∙ ap (λ (us : List Write). encode z (received (decode z t) target us)) over.are)

  -- The log of the one and the vector of the other, as they are read.
  module _ (h : source < z.n) (l : target < z.n) {log : List Write} {vector : List ℕ}
      (is-log : log ≡ (decode z t).log source) (is-vector : vector ≡ part t (vector_at z target 0) z.n) where
    pub origins-read : (w : Write) → In w log → w.origin < length vector
    origins-read w m = omega (arith, length-vector held target l is-vector, held.state.origins source w (subst (In w) is-log m))

    -- "The writes that "from" holds and "to" lacks".
    lacking-read : lacking (vector_of vector) log ≡ lacking ((decode z t).vector target) ((decode z t).log source)
    lacking-read =
        let v = (decode z t).vector target in
        ap₂ (λ (u : List ℕ) (g : List Write). lacking (vector_of u) g) (is-vector ∙ vector-view held target l) is-log
        ∙ lacking-cong (vector_of (row z.n v)) v ((decode z t).log source) (λ w m. get_or-row z.n v w.origin 0 (held.state.origins source w m))

    -- The first of these, at most so many, are those that go over: the front of a buffer, whose front was lent.
    pub sending : (most : ℕ) {there limit k : ℕ} (left rest : List Entry) → there ≡ get_or t (count_at z target) 0 → limit ≡ min most (z.l - there)
        → length left ≡ limit
        → k ≡ min (length (lacking (vector_of vector) log)) limit
        → map write_of (take k left) ≡ take k (lacking (vector_of vector) log)
        → Sending z t source target most k (map write_of (take k (left ++ rest)))
    unfolding going_over sent
    sending most {k = k} left rest has least long many which =
        let s = decode z t in
        let lack = lacking (s.vector target) (s.log source) in
        let over : k ≡ going_over z s source target most = omega (arith, many, least, has, count-view held target l, ap length lacking-read) in
        let front = take-append-le k left rest (omega (arith, many, long)) in
        let are : map write_of (take k (left ++ rest)) ≡ sent z s source target most =
        ap (λ (es : List Entry). map write_of es) front ∙ which ∙ ap₂ (λ n (g : List Write). take n g) over lacking-read in
        record {
          many = over;
          are = are;
          fitting = record {
            fit = omega (arith, length-map (take k (left ++ rest)) write_of, ap length front, length-take-le k left, many, long, least, has, count-view held target l, held.state.room target);
            ordered = subst Ascending (sym are) (take-ascending (going_over z s source target most) (lacking-ascending (s.vector target) (held.state.ascending source)));
            origins = λ w m. held.state.origins source w (in-lacking (s.vector target) (s.log source) (in_take (going_over z s source target most) lack (subst (In w) are m)));
          };
        }

-- The same of what is read in a view of the table.
pub sending-seen : {z seen : Table} {t words : List ℕ} → Held (shape z) t → words ≡ t → seen ≡ z → {source target most : ℕ} → source < z.n → target < z.n
    → {log : List Write} {vector : List ℕ} {there limit k : ℕ} (left rest : List Entry)
    → log ≡ (decode (shape seen) words).log source → vector ≡ part words (vector_at (shape seen) target 0) seen.n → there ≡ get_or words (count_at (shape seen) target) 0
    → limit ≡ min most (seen.l - there)
    → length left ≡ limit
    → k ≡ min (length (lacking (vector_of vector) log)) limit
    → map write_of (take k left) ≡ take k (lacking (vector_of vector) log)
    → Sending (shape z) t source target most k (map write_of (take k (left ++ rest)))
sending-seen {z} {seen} {t} {words} held same sizes {source} {target} {most} h l {k = k} left rest is-log is-vector has least long many which =
    let n = ap (λ (y : Table). y.n) sizes in
    let stands = subst₂ (λ (y : Table) (ws : List ℕ). Held (shape y) ws) (sym sizes) (sym same) held in
    subst₂ (λ (y : Table) (ws : List ℕ). Sending (shape y) ws source target most k (map write_of (take k (left ++ rest)))) sizes same
    (sending stands source target (omega (arith, n)) (omega (arith, n)) is-log is-vector most left rest has least long many which)
