-- Which service a pass belongs to.
use Rattle.atomic_table.specs.Seated.{TableId}
use Rattle.atomic_table.specs.declared.badge.Badge.{Badge}
use Rattle.crossbeam_channel.specs.declared.flavors.array.Key.{Key}
use Rattle.crossbeam_channel.specs.Claims.{Pass}
use Rattle.tb_service.specs.declared.orders.Order.{Order}
use Rattle.tb_service.specs.declared.rule.View.{View}

-- the name of a service: of its queue, and of the key to its messages
abbrev pub Name : Type 0
Name = TableId × Badge (Key Order)

abbrev pub service_of : Pass Order View → Name
service_of pass = (pass.table_id, pass.me.0.of)
