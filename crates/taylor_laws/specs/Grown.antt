-- Work that only appends: earlier entries of the pool are as they were.
-- Assumes nothing.
pub use Rattle.constructor_laws.specs.Grown.{Grows}
