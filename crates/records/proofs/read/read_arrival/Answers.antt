use Rattle.std.proofs.Common.{length, arith}
use Rattle.std.proofs.lemmas.List.{length-take}
use Rattle.record_bytes.specs.Format.{Format}
use Rattle.flows.specs.Models.{net_of}
use Rattle.flows.specs.declared.net.Net.{Net}
use Rattle.records.specs.Formats.{SoundArrival, arrival_record, arrival_bytes}
use Rattle.records.proofs.FormatLaws.{arrival_format}
use Rattle.records.proofs.read.read_arrival.Goals as goal

format_at : (net : Net) → Format (SoundArrival (length (net_of net).ports)) (arrival_record (length (net_of net).ports)) arrival_bytes
format_at net = arrival_format _ (omega (arith, length-take net.count net.ports, net.ports_few))

pub returns-in_err-packet-clause-format : goal.returns-in_err-packet-clause-format
returns-in_err-packet-clause-format c = format_at c.args.net.now

pub returns-in_err-port-clause-format : goal.returns-in_err-port-clause-format
returns-in_err-port-clause-format c = format_at c.args.net.now

pub returns-clause-format : goal.returns-clause-format
returns-clause-format c = format_at c.args.net.now
