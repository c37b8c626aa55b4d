-- "Calls from C": 32 says that the image is not a legal state's.
use Rattle.std.specs.Prelude.{◌≡◌, true, List, ℕ}
use Rattle.plan.specs.declared.Plan.{Plan}
use Rattle.state.specs.declared.State.{State}
use Rattle.state.specs.Sized.{Sized}
use Rattle.legal.specs.Legal.{legal}
use Rattle.image.specs.Image.{image_of}

-- some legal state has the image
pub record HasState (p : Plan) (b : List ℕ) : Type 0 where
  pub state : State
  pub sized : Sized state
  pub is_legal : legal p state ≡ true
  pub writes : image_of state ≡ b
