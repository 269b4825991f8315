-- Laws of signed numbers and of products.
pub mod Signs
pub mod Signed
pub mod Products
