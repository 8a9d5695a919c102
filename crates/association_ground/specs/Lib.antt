pub use Rattle.end_rules.specs as end_rules
