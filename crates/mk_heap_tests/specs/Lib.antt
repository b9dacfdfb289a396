pub mod HeldObjects
