-- `seipolku::seipolku_look_up` meets its contract. Assumes nothing.
use mathlib.Core.Path.{◌≡◌, refl, sym, ap, ◌∙◌}
use mathlib.Core.Bool.{Bool, true, false}
use mir.Val.{bool_byte}
use Rattle.nodes.specs.Fun.{digit}
use Rattle.seipolku.specs.Exported.{numbered}
use Rattle.seipolku.proofs.seipolku_look_up.Goals as goal

digit_byte : (b : Bool) → bool_byte b ≡ digit b
digit_byte true = refl
digit_byte false = refl

pub returns-in-Ok : goal.returns-in-Ok
returns-in-Ok c = digit_byte c.in-Ok.value ∙ ap numbered (sym c.in-Ok.is ∙ c.look_up.ensures)

pub returns-in-Err : goal.returns-in-Err
returns-in-Err c = c.number.ensures ∙ ap numbered (sym c.in-Err.is ∙ c.look_up.ensures)
