pub mod Tokens
pub mod Naming
pub mod Factors
pub mod Monomials
pub mod Polynomials
pub mod Decided
