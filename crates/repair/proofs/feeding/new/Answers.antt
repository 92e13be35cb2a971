-- `repair::feeding::new` meets its contract. Assumes nothing.
use mathlib.Core.Path.{◌∙◌, ap}
use Rattle.layout.specs.declared.Array.{Array}
use Rattle.repair.specs.Feeding.{entering, fresh_repair}
use Rattle.repair.proofs.feeding.new.Goals as goal

pub returns : goal.returns
unfolding fresh_repair
returns c = c.entering.ensures ∙ ap (λ (a : Array). entering 0 a 0) c.no_array.ensures
