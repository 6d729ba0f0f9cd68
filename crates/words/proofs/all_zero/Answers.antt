-- `words::all_zero` meets its contract: words are zero if each block of them is and so are the words behind the last block.
use Rattle.std.proofs.Common.{rules, ℕ, zero, suc, ◌+◌, ◌-◌, ◌*◌, List, [], ◌∷◌, ◌++◌, ◌≡◌, refl, sym, ap, ap₂, ◌∙◌, ◌&&◌, Bool, eqb, length, take, drop, ◌/◌, arith, take-append-drop, drop-drop}
use Rattle.std.proofs.Math.Seq.{take_all}
use Rattle.std.specs.List.{list_all}
use Rattle.std.specs.Simd.{first_chunks}
use Rattle.std.proofs.lemmas.Iterator.{YieldsList-from_slice}
use Rattle.std.proofs.lemmas.Iterator.Search.{all_from_yields_List}
use Rattle.words.specs.Tests.{zeros}
use Rattle.words.specs.TestLaws.{and_on, and_off, and_three}
use Rattle.words.proofs.all_zero.Goals as goal

zeros-append : (vs ws : List ℕ) → zeros (vs ++ ws) ≡ (zeros vs && zeros ws)
unfolding zeros
zeros-append [] ws = refl
zeros-append (v ∷ vs) ws = ap (λ t. eqb v 0 && t) (zeros-append vs ws) ∙ sym (and_three (eqb v 0) (zeros vs) (zeros ws))

-- Of the words, k blocks of n, and those behind them.
zeros-blocks : (n k : ℕ) (ws : List ℕ) → zeros ws ≡ (list_all zeros (first_chunks n k ws) && zeros (drop (k * n) ws))
zeros-blocks n zero ws =
    let none : 0 * n ≡ 0 = omega arith in
    ap (λ m. zeros (drop m ws)) (sym none)
zeros-blocks n (suc k) ws =
    let next : n + k * n ≡ suc k * n = omega arith in
    ap zeros (sym (take-append-drop n ws))
    ∙ (zeros-append (take n ws) (drop n ws)
    ∙ (ap (λ t. zeros (take n ws) && t)
    (zeros-blocks n k (drop n ws) ∙ ap (λ r. list_all zeros (first_chunks n k (drop n ws)) && zeros r) (drop-drop (k * n) n ws ∙ ap (λ m. drop m ws) next))
    ∙ sym (and_three (zeros (take n ws)) (list_all zeros (first_chunks n k (drop n ws))) (zeros (drop (suc k * n) ws)))))

-- Words from the first one on are all words.
uncut : (n : ℕ) (ws : List ℕ) → n ≡ 0 → take (length ws - n) (drop n ws) ≡ ws
uncut n ws e = ap (λ k. take (length ws - k) (drop k ws)) e ∙ take_all (length ws - 0) ws (omega arith)

-- By what `all` answered of the blocks of the words that were cut, which are all words.
by_blocks : {all : Bool} {seen : List ℕ} (ws : List ℕ) (blocks : List (List ℕ)) (rest : List ℕ) → all ≡ list_all zeros blocks
    → blocks ≡ first_chunks 64 (length seen / 64) seen
    → rest ≡ drop (length seen / 64 * 64) seen
    → seen ≡ ws
    → (all && zeros rest) ≡ zeros ws
by_blocks {seen = seen} ws blocks rest e front back same =
    ap₂ (λ (t : Bool) (r : List ℕ). t && zeros r) (e ∙ ap (list_all zeros) front) back ∙ (sym (zeros-blocks 64 (length seen / 64) seen) ∙ ap zeros same)

pub returns-then-all : goal.returns-then-all
returns-then-all c =
    let blocks = c.as_chunks.result.0.now in
    let each =
    all_from_yields_List zeros c.all.new.self _ c.all.result c.all.ensures.ran (YieldsList-from_slice blocks cc)
    (λ x t q k. search rules)
    in
    let whole =
    by_blocks c.args.a.now blocks c.as_chunks.result.1.now each c.as_chunks.ensures.front c.as_chunks.ensures.back (search (rules, uncut))
    in
    c.no_bits.ensures ∙ (and_on c.all.result _ c.if-all.true ∙ whole)

pub returns-else-all : goal.returns-else-all
returns-else-all c =
    let blocks = c.as_chunks.result.0.now in
    let each =
    all_from_yields_List zeros c.all.new.self _ c.all.result c.all.ensures.ran (YieldsList-from_slice blocks cc)
    (λ x t q k. search rules)
    in
    let whole =
    by_blocks c.args.a.now blocks c.as_chunks.result.1.now each c.as_chunks.ensures.front c.as_chunks.ensures.back (search (rules, uncut))
    in
    c.if-all.false ∙ (and_off c.all.result _ c.if-all.false ∙ whole)
