-- SPDX-License-Identifier: MPL-2.0
pub mod Sizing
pub mod Placing
pub mod Giving
pub mod Within
pub mod Framing
