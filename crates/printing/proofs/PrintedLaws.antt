-- What holds of bytes put at a place: one piece behind another, numbers, and the lines of words. Assumes nothing.
use Rattle.std.specs.Prelude.{ℕ, zero, suc, ◌+◌, ◌-◌, ◌*◌, ◌≤◌, ◌<◌, ◌/◌, ◌%◌, List, [], ◌∷◌, ◌++◌, ◌≡◌, refl, length, get_or, set, take, drop, slice_range}
use Rattle.std.proofs.Common.{append-nil, append_assoc, sym, ◌∙◌, ap, ap₂, subst, subst₂, add-zero, add-one, arith, length-append, length-drop, take-append-drop, length-take-le, take-suc, take_all, take-add, take_at, drop_at, drop-drop}
use Rattle.std.specs.Simd.{first_chunks}
use Rattle.words.specs.Lists.{row, part, splice}
use Rattle.words.specs.PartLaws.{row-part}
use Rattle.words.specs.SpliceLaws.{sets-splice}
use Rattle.lines.specs.Decimal.{decimal}
use Rattle.lines.proofs.DecimalLaws.{decimal-one, decimal-more, length-decimal}
use Rattle.lines.specs.Line.{numbers}
use Rattle.printing.specs.Printed.{Puts, Adds, line_at, word_line, word_lines, five_lines}
use Rattle.printing.specs.declared.Page.{Page}

-- A number has at most ten digits: what the room for a line goes by.
pub ruleset short = (length-decimal)

-- ---- pieces

-- Two neighbouring pieces replaced, one after the other, are one.
splice-then : (o bs cs : List ℕ) (at : ℕ) → at ≤ length o
    → splice (at + length bs) (length cs) (splice at (length bs) o bs) cs ≡ splice at (length (bs ++ cs)) o (bs ++ cs)
unfolding splice
splice-then o bs cs at h =
    let front = take at o ++ bs in
    let rest = drop (length bs) (drop at o) in
    let many : length front ≡ at + length bs = length-append (take at o) bs ∙ ap (λ n. n + length bs) (length-take-le at o h) in
    ap (λ (l : List ℕ). take (at + length bs) l ++ (cs ++ drop (length cs) (drop (at + length bs) l))) (sym (append_assoc (take at o) bs rest))
    ∙ (ap₂ (λ (p r : List ℕ). p ++ (cs ++ drop (length cs) r)) (take_at front rest _ many) (drop_at front rest _ many)
    ∙ (ap (λ (r : List ℕ). front ++ (cs ++ r)) (drop-drop (length cs) (length bs) (drop at o) ∙ ap (λ n. drop n (drop at o)) (sym (length-append bs cs)))
    ∙ simp append_assoc))

-- One piece behind another.
pub puts_then : {o bs cs e e' : List ℕ} {at r r' : ℕ} → at ≤ length o → Puts o at bs r e → Puts e r cs r' e' → Puts o at (bs ++ cs) r' e'
puts_then {o} {bs} {cs} {at = at} h p q =
    record {
      written = q.written ∙ (ap₂ (λ n l. splice n (length cs) l cs) p.next p.written ∙ splice-then o bs cs at h);
      next = omega (arith, p.next, q.next, length-append bs cs);
    }

-- No byte.
pub puts_none : (o : List ℕ) (at : ℕ) → Puts o at [] (at + 0) o
unfolding splice
puts_none o at = record { written = sym (take-append-drop at o); next = refl }

-- One byte.
pub puts_one : (o : List ℕ) (at b : ℕ) → at < length o → Puts o at (b ∷ []) (at + 1) (set o at b)
puts_one o at b h = record { written = sets-splice (b ∷ []) o at (omega arith); next = refl }

-- One byte more.
pub puts-more : {o bs e : List ℕ} {at r : ℕ} (b : ℕ) → at ≤ length o → r < length e → Puts o at bs r e → Puts o at (bs ++ (b ∷ [])) (r + 1) (set e r b)
puts-more {e = e} {r = r} b h l p = puts_then h p (puts_one e r b l)

-- One byte more of these.
pub puts-next : {o e : List ℕ} {at : ℕ} (bytes : List ℕ) (i : ℕ) → at ≤ length o → at + i < length e → i < length bytes
    → Puts o at (take i bytes) (at + i) e → Puts o at (take (i + 1) bytes) (at + (i + 1)) (set e (at + i) (get_or bytes i 0))
puts-next {o} {e} {at} bytes i h l m p =
    let after : List ℕ = set e (at + i) (get_or bytes i 0) in
    let goes : at + i + 1 ≡ at + (i + 1) = omega arith in
    subst₂ (λ bs r. Puts o at bs r after) (rw (add-one, take-suc bytes i 0)) goes (puts-more (get_or bytes i 0) h l p)

-- All of them.
pub puts-all : {o e : List ℕ} {at : ℕ} (bytes : List ℕ) (i : ℕ) → i ≡ length bytes → Puts o at (take i bytes) (at + i) e → Puts o at bytes (at + length bytes) e
puts-all {o} {e} {at} bytes i all p = subst₂ (λ bs n. Puts o at bs (at + n) e) (take_all i bytes (omega arith)) all p

-- The same on a page, and none.
pub adds_then : {p q r : Page} {bs cs : List ℕ} → Adds p bs q → Adds q cs r → Adds p (bs ++ cs) r
adds_then {p} a b = record { same = b.same ∙ a.same; long = b.long ∙ a.long; puts = puts_then p.within a.puts b.puts }

pub adds_none : (p : Page) → Adds p [] p
unfolding splice
adds_none p = record { same = refl; long = refl; puts = record { written = sym (take-append-drop p.len p.bytes.now); next = omega arith } }

-- ---- numbers

-- A number below 10.
pub puts-digit : (o : List ℕ) (at x : ℕ) → x < 10 → at < length o → Puts o at (decimal x) (at + 1) (set o at (48 + x))
puts-digit o at x small h = rw (decimal-one x small) (puts_one o at (48 + x) h)

-- Any other: its last digit behind its tenth.
pub puts-last : {o e : List ℕ} {at r : ℕ} (x : ℕ) → 10 ≤ x → at ≤ length o → r < length e → Puts o at (decimal (x / 10)) r e
    → Puts o at (decimal x) (r + 1) (set e r (48 + x % 10))
puts-last x large h l p = rw (decimal-more x large) (puts-more (48 + x % 10) h l p)

-- The same on a page.
pub adds-digit : {p q : Page} (x : ℕ) → x < 10 → Adds p ((48 + x) ∷ []) q → Adds p (decimal x) q
adds-digit x small a = rw (decimal-one x small) a

pub adds-last : {p q r : Page} (x : ℕ) → 10 ≤ x → Adds p (decimal (x / 10)) q → Adds q ((48 + x % 10) ∷ []) r → Adds p (decimal x) r
adds-last x large a b = rw (decimal-more x large) (adds_then a b)

-- ---- lines of words

-- Of two lists put together, the first in fives: the lines of the first, then those of the second.
word_lines-append : (ws vs : List ℕ) → length ws % 5 ≡ 0 → word_lines (ws ++ vs) ≡ word_lines ws ++ word_lines vs
unfolding word_lines
word_lines-append [] vs h = refl
word_lines-append (a ∷ []) vs h = absurd (omega arith)
word_lines-append (a ∷ b ∷ []) vs h = absurd (omega arith)
word_lines-append (a ∷ b ∷ c ∷ []) vs h = absurd (omega arith)
word_lines-append (a ∷ b ∷ c ∷ d ∷ []) vs h = absurd (omega arith)
word_lines-append (a ∷ b ∷ c ∷ d ∷ e ∷ ws) vs h =
    let line = numbers a (b ∷ c ∷ d ∷ e ∷ []) in
    ap (λ (r : List ℕ). line ++ r) (word_lines-append ws vs (omega arith)) ∙ sym (append_assoc line (word_lines ws) (word_lines vs))

-- Five words are one line.
line_at-part : (ws : List ℕ) (at : ℕ) → at + 5 ≤ length ws → word_lines (part ws at 5) ≡ line_at ws at
unfolding word_lines line_at row
line_at-part ws at h = ap word_lines (sym (row-part ws at 5 0 h)) ∙ rw (add-zero, append-nil)

-- One line more.
word_lines-more : (ws : List ℕ) (i : ℕ) → i * 5 + 5 ≤ length ws → word_lines (take ((i + 1) * 5) ws) ≡ word_lines (take (i * 5) ws) ++ line_at ws (i * 5)
unfolding part
word_lines-more ws i h =
    let e : (i + 1) * 5 ≡ i * 5 + 5 = omega arith in
    ap (λ n. word_lines (take n ws)) e
    ∙ (ap word_lines (take-add (i * 5) 5 ws)
    ∙ (word_lines-append (take (i * 5) ws) (part ws (i * 5) 5) (omega (arith, length-take-le (i * 5) ws (omega arith)))
    ∙ ap (λ (r : List ℕ). word_lines (take (i * 5) ws) ++ r) (line_at-part ws (i * 5) h)))

-- One line more put.
pub puts-line : {o e e' : List ℕ} {r r' : ℕ} (ws : List ℕ) (i : ℕ) → i * 5 + 5 ≤ length ws
    → Puts o 0 (word_lines (take (i * 5) ws)) r e → Puts e r (line_at ws (i * 5)) r' e' → Puts o 0 (word_lines (take ((i + 1) * 5) ws)) r' e'
puts-line ws i h p q = rw (word_lines-more ws i h) (puts_then (omega arith) p q)

-- All lines put.
pub puts-lines : {o e : List ℕ} {r : ℕ} (ws : List ℕ) (i : ℕ) → length ws ≤ i * 5 → Puts o 0 (word_lines (take (i * 5) ws)) r e → Puts o 0 (word_lines ws) r e
puts-lines ws i all p = rw (take_all (i * 5) ws all) at p

-- Words cut into fives have the same lines.
pub fives-lines : (ws : List ℕ) → five_lines (first_chunks 5 (length ws / 5) ws) ≡ word_lines ws
unfolding five_lines word_lines word_line
fives-lines [] = refl
fives-lines (a ∷ []) = refl
fives-lines (a ∷ b ∷ []) = refl
fives-lines (a ∷ b ∷ c ∷ []) = refl
fives-lines (a ∷ b ∷ c ∷ d ∷ []) = refl
fives-lines (a ∷ b ∷ c ∷ d ∷ e ∷ ws) =
    let more : length (a ∷ b ∷ c ∷ d ∷ e ∷ ws) / 5 ≡ suc (length ws / 5) = omega arith in
    ap (λ k. five_lines (first_chunks 5 k (a ∷ b ∷ c ∷ d ∷ e ∷ ws))) more
    ∙ ap (λ (r : List ℕ). numbers a (b ∷ c ∷ d ∷ e ∷ []) ++ r) (fives-lines ws)

-- One line more.
five_lines-more : (wss : List (List ℕ)) (i : ℕ) → i < length wss → five_lines (take (suc i) wss) ≡ five_lines (take i wss) ++ word_line (get_or wss i [])
unfolding five_lines
five_lines-more [] i h = absurd (omega arith)
five_lines-more (ws ∷ wss) zero h = append-nil _
five_lines-more (ws ∷ wss) (suc i) h =
    ap (λ (r : List ℕ). word_line ws ++ r) (five_lines-more wss i (omega arith)) ∙ sym (append_assoc (word_line ws) (five_lines (take i wss)) (word_line (get_or wss i [])))

pub adds-line : {p q r : Page} (wss : List (List ℕ)) (i : ℕ) → i < length wss → Adds p (five_lines (take i wss)) q → Adds q (word_line (get_or wss i [])) r
    → Adds p (five_lines (take (i + 1) wss)) r
adds-line wss i h a b = rw (add-one, five_lines-more wss i h) (adds_then a b)

-- All of them.
pub adds-lines : {p q : Page} (ws : List ℕ) (wss : List (List ℕ)) (i : ℕ) → wss ≡ first_chunks 5 (length ws / 5) ws → length wss ≤ i → Adds p (five_lines (take i wss)) q → Adds p (word_lines ws) q
adds-lines ws wss i are all a = rw (take_all i wss all, are, fives-lines ws) at a

-- Five words are a line before those of the others, and fewer are none.
line-before : (ws : List ℕ) → 5 ≤ length ws → word_lines ws ≡ word_line (take 5 ws) ++ word_lines (drop 5 ws)
unfolding word_lines word_line
line-before [] h = absurd (omega arith)
line-before (a ∷ []) h = absurd (omega arith)
line-before (a ∷ b ∷ []) h = absurd (omega arith)
line-before (a ∷ b ∷ c ∷ []) h = absurd (omega arith)
line-before (a ∷ b ∷ c ∷ d ∷ []) h = absurd (omega arith)
line-before (a ∷ b ∷ c ∷ d ∷ e ∷ ws) h = refl

no_line : (ws : List ℕ) → length ws < 5 → word_lines ws ≡ []
unfolding word_lines
no_line [] h = refl
no_line (a ∷ []) h = refl
no_line (a ∷ b ∷ []) h = refl
no_line (a ∷ b ∷ c ∷ []) h = refl
no_line (a ∷ b ∷ c ∷ d ∷ []) h = refl
no_line (a ∷ b ∷ c ∷ d ∷ e ∷ ws) h = absurd (omega arith)

-- Some lines of words are on a page, at most 55 bytes for each five words, and those of the rest are still to come.
pub record Printing (before : Page) (ws rest : List ℕ) (p : Page) : Type 0 where
  pub done : List ℕ
  pub adds : Adds before done p
  pub all : done ++ word_lines rest ≡ word_lines ws
  pub room : p.len + length rest * 11 ≤ before.len + length ws * 11

pub printing-starts : (p : Page) (ws : List ℕ) → Printing p ws ws p
printing-starts p ws = record { done = []; adds = adds_none p; all = refl; room = omega arith }

pub printing-on : {before p q : Page} {ws rest answer behind : List ℕ} → Printing before ws rest p → 5 ≤ length rest → answer ≡ take 5 rest → Adds p (word_line answer) q → q.len ≤ p.len + 55
    → behind ≡ drop 5 rest → Printing before ws behind q
printing-on {rest = rest} {answer = answer} {behind = behind} so enough is put short goes =
    record {
      done = so.done ++ word_line answer;
      adds = adds_then so.adds put;
      all =
          append_assoc so.done (word_line answer) (word_lines behind)
          ∙ (ap₂ (λ a b. so.done ++ (word_line a ++ word_lines b)) is goes
          ∙ (ap (λ l. so.done ++ l) (sym (line-before rest enough))
          ∙ so.all));
      room = omega (arith, so.room, short, enough, ap length goes, length-drop 5 rest);
    }

pub printing-ends : {before p : Page} {ws rest : List ℕ} → Printing before ws rest p → length rest < 5 → Adds before (word_lines ws) p
printing-ends {before} {p} {rest = rest} so few =
    subst (λ l. Adds before l p) (sym (append-nil so.done) ∙ (ap (λ l. so.done ++ l) (sym (no_line rest few)) ∙ so.all)) so.adds

-- What stands behind five words.
pub behind_five : (ws : List ℕ) → slice_range ws 5 (length ws) ≡ drop 5 ws
behind_five ws = take_all (length ws - 5) (drop 5 ws) (omega (arith, length-drop 5 ws))
