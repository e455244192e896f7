-- An honest monitor is tidy. Assumes nothing.
use Rattle.gatekeeper.specs.declared.Monitor.{Monitor}
use Rattle.gatekeeper.specs.View.{Honest, Tidy}

pub honest_tidy : (m : Monitor) → Honest m → Tidy m
honest_tidy m h q = let k = h q in (k.0, k.1.wf)
