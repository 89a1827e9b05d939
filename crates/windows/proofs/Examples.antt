-- The windows of specs/, computed.
use mathlib.Core.Path.{refl}
use Rattle.windows.specs.{Windows.{minute_in, is_open_at}, Examples.WindowExamples}

window-examples : WindowExamples
window-examples = unfold minute_in is_open_at in record {
  minutes = (refl, refl);
  day = (refl, refl, refl, refl);
  night = (refl, refl, refl, refl, refl, refl);
  fresh = (refl, refl, refl, refl);
  always = (refl, refl, refl);
}
