-- What the code's functions on a text promise: what is read there, and the text behind it. Assumes nothing.
use Rattle.std.specs.Prelude.{ℕ, ◌-◌, List, [], ◌∷◌, ◌≡◌, length, Option, Some, None}
use Rattle.std.specs.Borrow.{Bor}
use Rattle.rules.specs.Step.{Step}
use Rattle.lines.specs.Read.{Got, read_line}
use Rattle.lines.specs.declared.Reader.{Reader}

-- What was read and the text behind it, or nothing.
abbrev pub got : {A : Type 0} → Option (A × Bor (List ℕ)) → Option (Got A)
got None = None
got (Some r) = Some (record { value = r.0; rest = r.1.now })

-- Two results are the same: both nothing, or the same was read and the same text is behind it.
abbrev pub Same : Option (List ℕ × Bor (List ℕ)) → Option (List ℕ × Bor (List ℕ)) → Type 0
Same None None = Unit {0}
Same None (Some s) = ⊥
Same (Some r) None = ⊥
Same (Some r) (Some s) = (r.0 ≡ s.0) × (r.1.now ≡ s.1.now)

-- The words that were read of a line, and the place at which a text goes on behind it, or nothing.
abbrev pub placed : List ℕ → Option (List ℕ × Bor (List ℕ)) → Option (List ℕ × ℕ)
placed text None = None
placed text (Some r) = Some (r.0, length text - length r.1.now)

-- The numbers that were put in words, and the text behind their line, or nothing.
abbrev pub fields_got : List ℕ → Option (Bor (List ℕ)) → Option (Got (List ℕ))
fields_got words None = None
fields_got words (Some rest) = Some (record { value = words; rest = rest.now })

-- A step's five words. The first line's sizes are a step of kind 0.
abbrev pub words_of : Step → List ℕ
words_of x = x.kind ∷ x.a ∷ x.b ∷ x.c ∷ x.d ∷ []

-- What was read of a line, as words.
abbrev pub line_words : Option (Got Step) → Option (Got (List ℕ))
line_words None = None
line_words (Some g) = Some (record { value = words_of g.value; rest = g.rest })

-- The words alone.
abbrev pub words_read : Option (Got Step) → Option (List ℕ)
words_read None = None
words_read (Some g) = Some (words_of g.value)

-- The promise of what makes a reader: it holds the text and stands at the place.
pub record NewPromise (text : Bor (List ℕ)) (at : ℕ) (r : Reader) : Type 0 where
  pub text_is : r.text ≡ text
  pub at_is : r.at ≡ at

-- Where a reader stands once it has read a line of a text: behind it, or where it stood if the line is bad.
abbrev pub place_behind : List ℕ → Option (Got Step) → ℕ → ℕ
place_behind text None at = at
place_behind text (Some g) at = length text - length g.rest

-- The same text, at that place.
abbrev pub moved_behind : Option (Got Step) → Reader → Reader
moved_behind found r = record { text = r.text; at = place_behind r.text.now found r.at }

-- The promise of a reader's step: the line is the one where the reader stood, and the reader has moved behind it.
pub record NextPromise (before : Reader) (l : Option (List ℕ)) (after : Reader) : Type 0 where
  pub line_is : l ≡ words_read (read_line before.text.now before.at)
  pub moved_is : after ≡ moved_behind (read_line before.text.now before.at) before
