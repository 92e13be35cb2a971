-- The stages of an image that comes in pieces, and their numbers. Assumes nothing.
use Rattle.std.specs.Prelude.{ℕ, cond, eqb}
use Rattle.lines.specs.declared.stage.Stage.{Stage}
use Rattle.lines.specs.declared.stage.Stage.TheVariants.{Header, Stripes, Behind, Over}

-- the stage of a state's number; a number that is no stage's passes all over, as one that is over
abbrev pub stage_of : ℕ → Stage
stage_of number = cond (eqb number 0) Header (cond (eqb number 1) Stripes (cond (eqb number 2) Behind Over))

abbrev pub number_of : Stage → ℕ
number_of Header = 0
number_of Stripes = 1
number_of Behind = 2
number_of Over = 3
