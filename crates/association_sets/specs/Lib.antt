pub use Rattle.association_ground.specs.end_rules as end_rules
