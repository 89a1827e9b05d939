-- The examples of requests are computed.
use mathlib.Core.Path.{refl}
use Rattle.requests.specs.{Requests.call_of, Examples.CallsEach}

pub calls-each : CallsEach
calls-each = unfold call_of in record {
  begins = refl;
  seeks = refl;
  writes = refl;
  looks = refl;
  reads = refl;
  commits = refl;
  aborts = refl;
  lists = refl;
  windows = refl;
  back = refl;
}
