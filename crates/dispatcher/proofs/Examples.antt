-- The examples are computed; the counterexamples contradict a field.
use mathlib.Core.Path.{◌≡◌, refl, ap}
use native.Mathlib.Omega.{arith}
use Prim.Native.Nat.{ℕ, ◌+◌}
use Rattle.spec_dispatch.specs.Rounds.{ScriptCall, seeks, writes, asks, reads}
use Rattle.dispatcher.specs.{Types.{script_call_of, scripts_of, end_of_script}, Promise.said_of}
use Rattle.dispatcher.specs.Examples.{three_scripts, DispatcherExamples, ScriptListsTell}

pub dispatcher-examples : DispatcherExamples
dispatcher-examples = unfold script_call_of scripts_of three_scripts end_of_script said_of in record {
  seek = refl;
  write = refl;
  get_file_pointer = refl;
  read = refl;
  count = refl;
  counts = (refl, refl);
  first = refl;
  next = refl;
  going = refl;
  granted = refl;
  ended = refl;
  second = refl;
  said = (refl, refl);
}

-- The descriptor of a call.
unfoldable descriptor_of : ScriptCall → ℕ
descriptor_of (seeks d v) = d
descriptor_of (writes d start n) = d
descriptor_of (asks d) = d
descriptor_of (reads d n) = d

pub script-lists-tell : ScriptListsTell
script-lists-tell = unfold descriptor_of in record {
  one_script = λ s. let e : ◌≡◌ {A = ℕ} 1 2 = s.count in omega (arith, e);
  one_call = λ s. let e : ◌≡◌ {A = ℕ} 1 0 = s.calls 0 in omega (arith, e);
  same = λ s. let e : ◌≡◌ {A = ℕ} 0 (0 + 1) = s.calls (omega arith) (omega arith) in omega (arith, e);
  other = λ s. let e : ◌≡◌ {A = ℕ} 0 1 = ap descriptor_of (s.last (omega arith) (omega arith)) in omega (arith, e);
  both = λ s. let e : ◌≡◌ {A = ℕ} 1 0 = s.others 1 (λ q. omega (arith, q)) in omega (arith, e);
}
