pub mod Series
pub mod Coefficients
pub mod Book
pub mod PolynomialExpressions
