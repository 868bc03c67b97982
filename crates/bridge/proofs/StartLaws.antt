-- A port at its start. Assumes nothing.
use Rattle.std.proofs.Common.{◌≡◌, None, List, [], ◌∷◌, map, replicate, refl, ap, ◌∙◌}
use Rattle.std.specs.List.{AllByRecursion as Each}
use Rattle.lines.specs.declared.packet.Packet.{Packet}
use Rattle.levels.specs.Levels.{LevelModel}
use Rattle.egress.specs.Egress.{GateModel}
use Rattle.egress.specs.Plays.{empty_gates}
use Rattle.bridge.specs.Ports.{is_edge, GateState}
use Rattle.bridge.specs.Runs.{gate_model, Vacant, StartsWith}

vacant-gates : (gates : List GateState) → Each Vacant gates → map gate_model gates ≡ empty_gates (map (λ (g : GateState). is_edge g.stand) gates)
vacant-gates [] vacant = refl
vacant-gates (g ∷ gates) vacant =
    ap (λ (ws : List Packet). let m : GateModel = record { at_edge = is_edge g.stand; waits = ws } in m ∷ map gate_model gates) vacant.0.waits
    ∙ ap (λ ms. record { at_edge = is_edge g.stand; waits = [] } ∷ ms) (vacant-gates gates vacant.1)

none-come : (gates : List GateState) → Each Vacant gates → Each (λ (g : GateState). g.coming ≡ []) gates
none-come [] vacant = tt
none-come (g ∷ gates) vacant = (vacant.0.coming, none-come gates vacant.1)

pub starts-with : (gates : List GateState) (levels : List LevelModel) →
    StartsWith gates levels (record { gates = gates; levels = levels; queues = replicate 8 []; sending = None })
starts-with gates levels a edges vacant full =
    record {
      gates = vacant-gates gates vacant ∙ ap empty_gates edges;
      nobody = none-come gates vacant;
      levels = full;
      queues = refl;
      sending = refl;
    }
