-- Flows that are read are sound, and are what is written for them. Assumes nothing.
use Rattle.std.proofs.Common.{◌≡◌, ℕ, ◌+◌, ◌^◌, ◌<◌, ◌≤◌, List, [], ◌++◌, length, sym, ap, ◌∙◌, subst, subst₂, append_assoc, zero-add, arith, length-append}
use Rattle.std.specs.List.{AllByRecursion as Each}
use Rattle.record_bytes.specs.Reading.{Cursor, read}
use Rattle.record_bytes.specs.Numbers.{number, ranged, kind_byte, bytes_of, IsByte}
use Rattle.record_bytes.specs.Format.{Format}
use Rattle.record_bytes.proofs.Sequence.{both_read, same_value, same_place}
use Rattle.record_bytes.proofs.Digits.{length-bytes_of}
use Rattle.record_bytes.proofs.Written.{Told, told_then, number_told, number_written, ranged_told, ranged_written, kind_told, kind_written}
use Rattle.record_bytes.proofs.Steady.{Steady, steady_then, steady_value, steady_number, steady_ranged, steady_kind}
use Rattle.record_bytes.proofs.Formats.{format_of}
use Rattle.flows.specs.Net.{NetModel}
use Rattle.flows.specs.Flow.{FlowModel, SoundFlow}
use Rattle.flows.specs.FlowFormat.{road_from, flow_from, flow_record, flow_bytes}
use Rattle.flows.proofs.RoadLaws.{road_told, road-bytes, road_written, steady_road}

steady_flow : (net : NetModel) → Steady (flow_from net)
unfolding flow_from
steady_flow net =
    steady_then (kind_byte 1) _ (steady_kind 1) λ _.
    steady_then (ranged 1 0 7) _ (steady_ranged 1 0 7) λ class.
    steady_then (ranged 1 1 255) _ (steady_ranged 1 1 255) λ longest.
    steady_then (ranged 2 longest 65535) _ (steady_ranged 2 longest 65535) λ burst.
    steady_then (ranged 4 1 1000000) _ (steady_ranged 4 1 1000000) λ rate.
    steady_then (number 4) _ (steady_number 4) λ deadline.
    steady_then (ranged 1 1 16) _ (steady_ranged 1 1 16) λ hops.
    steady_then (road_from net hops []) _ (steady_road net hops []) λ road.
    steady_value (record { class = class; longest = longest; burst = burst; rate = rate; deadline = deadline; road = road })

flow_written : (net : NetModel) → length net.ports ≤ 64 → (f : FlowModel) → SoundFlow net f → (at : ℕ) (rest : List ℕ) →
    flow_from net (record { at = at; rest = flow_bytes f ++ rest }) ≡ read f (record { at = at + length (flow_bytes f); rest = rest })
unfolding flow_from
flow_written net few f sound at rest =
    let ranges = sound.ranges in
    let one : 1 < 256 = omega arith in
    let class : f.class < 256 ^ 1 = omega (arith, ranges.class_low) in
    let class_low : 0 ≤ f.class = omega arith in
    let class-high = ranges.class_low in
    let longest : f.longest < 256 ^ 1 = omega (arith, ranges.longest_byte) in
    let longest-low = ranges.longest_some in
    let longest-high = ranges.longest_byte in
    let burst : f.burst < 256 ^ 2 = omega (arith, ranges.burst_short) in
    let burst-low = ranges.burst_holds in
    let burst-high = ranges.burst_short in
    let rate : f.rate < 256 ^ 4 = omega (arith, ranges.rate_whole) in
    let rate-low = ranges.rate_some in
    let rate-high = ranges.rate_whole in
    let deadline : f.deadline < 256 ^ 4 = ranges.deadline_word in
    let hops : length f.road < 256 ^ 1 = omega (arith, ranges.road_few) in
    let hops-low = ranges.road_some in
    let hops-high = ranges.road_few in
    let size : length (flow_bytes f) ≡ 14 + length f.road = simp (length-append, length-bytes_of) (omega arith) in
    let places : at + 1 + 1 + 1 + 2 + 4 + 4 + 1 + length f.road ≡ at + length (flow_bytes f) = omega arith in
    rw (
      append_assoc,
      kind_written 1 at _ one,
      append_assoc,
      ranged_written 1 0 7 f.class (at + 1) _ class class_low class-high,
      append_assoc,
      ranged_written 1 1 255 f.longest (at + 1 + 1) _ longest longest-low longest-high,
      append_assoc,
      ranged_written 2 f.longest 65535 f.burst (at + 1 + 1 + 1) _ burst burst-low burst-high,
      append_assoc,
      ranged_written 4 1 1000000 f.rate (at + 1 + 1 + 1 + 2) _ rate rate-low rate-high,
      append_assoc,
      number_written 4 f.deadline (at + 1 + 1 + 1 + 2 + 4) _ deadline,
      append_assoc,
      ranged_written 1 1 16 (length f.road) (at + 1 + 1 + 1 + 2 + 4 + 4) _ hops hops-low hops-high,
      road_written net f.road [] few sound.route (at + 1 + 1 + 1 + 2 + 4 + 4 + 1) rest,
    )
    (ap (λ n. read f (record { at = n; rest = rest })) places)

flow_told : (net : NetModel) (f : FlowModel) (c after : Cursor) → flow_from net c ≡ read f after → Each IsByte c.rest →
    SoundFlow net f × Told c after (flow_bytes f)
unfolding flow_from
flow_told net f c after e bytes =
    let kind = both_read (kind_byte 1 c) _ f after e in
    let kind-is = kind_told 1 kind.0 c kind.1 kind.2 bytes in
    let class = both_read (ranged 1 0 7 kind.1) _ f after kind.3 in
    let class-is = ranged_told 1 0 7 class.0 kind.1 class.1 class.2 kind-is.1.left in
    let longest = both_read (ranged 1 1 255 class.1) _ f after class.3 in
    let longest-is = ranged_told 1 1 255 longest.0 class.1 longest.1 longest.2 class-is.3.left in
    let burst = both_read (ranged 2 longest.0 65535 longest.1) _ f after longest.3 in
    let burst-is = ranged_told 2 longest.0 65535 burst.0 longest.1 burst.1 burst.2 longest-is.3.left in
    let rate = both_read (ranged 4 1 1000000 burst.1) _ f after burst.3 in
    let rate-is = ranged_told 4 1 1000000 rate.0 burst.1 rate.1 rate.2 burst-is.3.left in
    let deadline = both_read (number 4 rate.1) _ f after rate.3 in
    let deadline-is = number_told 4 deadline.0 rate.1 deadline.1 deadline.2 rate-is.3.left in
    let hops = both_read (ranged 1 1 16 deadline.1) _ f after deadline.3 in
    let hops-is = ranged_told 1 1 16 hops.0 deadline.1 hops.1 hops.2 deadline-is.1.left in
    let road = both_read (road_from net hops.0 [] hops.1) _ f after hops.3 in
    let route = road_told net hops.0 [] road.0 hops.1 road.1 road.2 (record { known = tt; once = tt; connected = tt }) in
    let ports = road-bytes net hops.0 [] road.0 hops.1 road.1 road.2 hops-is.3.left in
    let size : hops.0 ≡ length road.0 = sym (route.0 ∙ zero-add hops.0) in
    let Some : ℕ → Type 0 = λ n. 1 ≤ n in
    let Few : ℕ → Type 0 = λ n. n ≤ 16 in
    let Count : ℕ → Type 0 = λ n. Told deadline.1 hops.1 (bytes_of 1 n) in
    let Ports : List ℕ → Type 0 = λ ps. Told hops.1 road.1 ps in
    let value : FlowModel = record { class = class.0; longest = longest.0; burst = burst.0; rate = rate.0; deadline = deadline.0; road = road.0 } in
    let is : value ≡ f = same_value road.3 in
    let ends : road.1 ≡ after = same_place road.3 in
    let P : FlowModel → Cursor → Type 0 = λ g d. SoundFlow net g × Told c d (flow_bytes g) in
    subst₂ P is ends (
      record {
        ranges = record {
          class_low = class-is.1;
          longest_some = longest-is.0;
          longest_byte = longest-is.1;
          burst_holds = burst-is.0;
          burst_short = burst-is.1;
          rate_some = rate-is.0;
          rate_whole = rate-is.1;
          deadline_word = deadline-is.0;
          road_some = subst Some size hops-is.0;
          road_few = subst Few size hops-is.1;
        };
        route = route.1;
      },
      told_then c kind.1 road.1 _ _ kind-is.1
          (told_then kind.1 class.1 road.1 _ _ class-is.3
          (told_then class.1 longest.1 road.1 _ _ longest-is.3
          (told_then longest.1 burst.1 road.1 _ _ burst-is.3
          (told_then burst.1 rate.1 road.1 _ _ rate-is.3
          (told_then rate.1 deadline.1 road.1 _ _ deadline-is.1
          (told_then deadline.1 hops.1 road.1 _ _ (subst Count size hops-is.3) (subst Ports (sym ports.1) ports.2))))))),
    )

pub flow_format : (net : NetModel) → length net.ports ≤ 64 → Format (SoundFlow net) (flow_record net) flow_bytes
flow_format net few = format_of (SoundFlow net) (flow_from net) flow_bytes (steady_flow net) (flow_written net few) (flow_told net)
