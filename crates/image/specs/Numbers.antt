-- "Calls from C": the number of each refusal of buffers that are lent.
use Rattle.std.specs.Prelude.{ℕ, Result, Ok, Err}
use Rattle.image.specs.declared.Unopened.{Unopened}
use Rattle.image.specs.declared.Unopened.TheVariants.{Length, Block, Image}

unfoldable pub number_of : Unopened → ℕ
number_of Length = 34
number_of Block = 31
number_of Image = 32

-- 0 where there is none
unfoldable pub number_in : {A : Type 0} → Result A Unopened → ℕ
number_in (Ok a) = 0
number_in (Err e) = number_of e
