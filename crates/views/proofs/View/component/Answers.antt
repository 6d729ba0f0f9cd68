-- `View::component` meets its contract: a word of the vector is that component.
use Rattle.std.proofs.Common.{◌∙◌, ap, ℕ, List, length, get_or, arith}
use Rattle.views.specs.ReadLaws.{vector-length, component-read}
use Rattle.views.proofs.View.component.Goals as goal

pub bounds-vector-j : goal.bounds-vector-j
bounds-vector-j c = omega (arith, ap length c.vector.ensures, vector-length c.args.self.now.laid _ c.requires.0)

pub returns : goal.returns
returns c = ap (λ (v : List ℕ). get_or v c.args.j 0) c.vector.ensures ∙ component-read _ _ _ _ c.requires.0 c.requires.1
