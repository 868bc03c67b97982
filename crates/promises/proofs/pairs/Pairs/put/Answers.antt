use Rattle.std.proofs.Common.{◌<◌, ◌∙◌, [], map, length, get_or, set, sym, ap, arith}
use Rattle.std.proofs.lemmas.List.{get_or-map, map-set}
use Rattle.promises.specs.declared.loads.Loads.{Loads}
use Rattle.promises.specs.Loads.{put_pair}
use Rattle.promises.specs.Models.{load_model, loads_model, pairs_model}
use Rattle.promises.proofs.pairs.Pairs.put.Goals as goal

pub returns-then-place-lt64 : goal.returns-then-place-lt64
returns-then-place-lt64 c =
    let from = c.args.self.now.from.each in
    let p = c.from-place.result in
    let within : p < length from = omega (arith, c.args.self.now.from.all_ports) in
    let row : Loads = record { ports = c.put.new.self } in
    let before : Loads = get_or from p c.index-rows-place.result in
    let put = ap (map load_model) c.put.ensures ∙ map-set load_model before.ports.each c.args.q c.args.load in
    let there = sym (get_or-map loads_model from p c.index-rows-place.result [] within) in
    map-set loads_model from p row ∙ ap (set (map loads_model from) p) (put ∙ ap (λ ls. set ls c.args.q (load_model c.args.load)) there)
    ∙ ap (λ x. put_pair (pairs_model c.args.self.now) x c.args.q (load_model c.args.load)) c.from-place.ensures
